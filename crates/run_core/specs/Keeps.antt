-- What a host and a machine keep.
use Rattle.std.specs.Prelude.{◌≡◌, ℕ, length}
use Rattle.lut_sim.specs.Sim.{SimValue}
use Rattle.spec_core.specs.Specialiser.{SpecialiserValue}

-- a value for each parameter of the pack, and a bit for each of the pack's
pub record KeepsHost (host : SpecialiserValue) : Type 0 where
  pub params : length host.state.params ≡ length host.pack.params
  pub config : length host.state.config ≡ length host.pack.bits

-- the host's bits are those of the LUTs, and the numbers of the header
pub record Keeps (host : SpecialiserValue) (sim : SimValue) (luts depth : ℕ) : Type 0 where
  pub bits : length host.pack.bits ≡ sim.template.bits
  pub params : length host.pack.params ≡ sim.shape.params
  pub luts_are : luts ≡ length sim.template.luts
  pub depth_is : depth ≡ sim.template.depth
