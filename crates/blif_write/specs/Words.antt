-- The words of other crates that the definitions say, passed on from one place.
pub use Rattle.list_laws.specs.Members.{In}
pub use Rattle.tl_text.specs.Clean.{IsClean}
pub use Rattle.tl_text.specs.Once.{AreOnce}
pub use Rattle.netlist.specs.declared.flat.OutPort.{OutPort}
pub use Rattle.netlist.specs.declared.flat.FlatLatch.{FlatLatch}
pub use Rattle.netlist.specs.FlatValue.{FlatValue}
pub use Rattle.netlist.specs.Flat.{underscores, IsFlat}
pub use Rattle.param_list.specs.declared.params.Param.{Param}
pub use Rattle.param_list.specs.Parameters.{regular_names}
pub use Rattle.aig_core.specs.declared.lit.Lit.{Lit}
pub use Rattle.cover_pick.specs.declared.lut.Lut.{Lut}
pub use Rattle.cover_pick.specs.Template.{TemplateValue}
pub use Rattle.netlist.specs.declared.cell.Cell.{Cell}
pub use Rattle.netlist.specs.CoverValue.{RowValue, CoverValue}
