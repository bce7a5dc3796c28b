-- The words of other crates that the definitions say, passed on from one place.
pub use Rattle.list_laws.specs.Members.{In}
pub use Rattle.aig_core.specs.Roots.{lits_of}
pub use Rattle.cover_pick.specs.declared.lut.Lut.{Lut}
pub use Rattle.cover_pick.specs.Template.{TemplateValue}
pub use Rattle.cover_pick.specs.Mapping.{IsMapping, AscendByLit, HaveBases, HasLut, bits_of}
