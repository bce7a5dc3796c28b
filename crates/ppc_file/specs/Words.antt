-- The words of other crates that the definitions say, passed on from one place.
pub use Rattle.aig_core.specs.declared.lit.Lit.{Lit}
pub use Rattle.aig_core.specs.declared.lit.Pair.{Pair}
pub use Rattle.ppc_pack.specs.declared.pack.PackParam.{PackParam}
pub use Rattle.ppc_pack.specs.Pack.{PackValue, IsPack}
pub use Rattle.ppc_pack.specs.declared.pack.TheConstants.{MOST_PACK_NODES, MOST_PACK_BITS}
pub use Rattle.tl_text.specs.declared.limits.TheConstants.{MOST_PARAMETERS, MOST_NAME_BYTES}
pub use Rattle.aig_core.specs.Aig.{AreNormal, first_and}
