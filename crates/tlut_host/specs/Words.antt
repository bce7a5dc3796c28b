-- The words of other crates that the definitions say, passed on from one place.
pub use Rattle.ppc_pack.specs.Pack.{IsConf, inits_of, PackValue, HasOneConf}
pub use Rattle.spec_core.specs.Specialiser.{SpecialiserValue}
pub use Rattle.spec_core.specs.Events.{IsUpset, IsScrub, IsSet}
pub use Rattle.ppc_file.specs.PackFile.{IsPackFile, IsPackFault}
pub use Rattle.tl_io.specs.declared.Assign.{Assign}
pub use Rattle.spec_core.specs.Touched.{IsWithinTouched}
