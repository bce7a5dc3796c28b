-- The words of other crates that the definitions say, passed on from one place.
pub use Rattle.tl_io.specs.declared.Write.{Write}
pub use Rattle.tl_io.specs.Writes.{written}
pub use Rattle.spec_core.specs.Differences.{config_bit, differs_at, differences}
pub use Rattle.ppc_pack.specs.Pack.{IsConf, HasOneConf, PackValue}
pub use Rattle.tl_io.specs.declared.Assign.{Assign}
pub use Rattle.tl_io.specs.Assigns.{AreAssigned, assigned}
pub use Rattle.lut_sim.specs.Sim.{SimValue}
