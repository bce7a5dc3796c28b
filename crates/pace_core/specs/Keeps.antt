-- What a pacer keeps: its specialiser has the configuration of the values that were asked for, which the backlog's device is behind by what it is said to be.
use Rattle.std.specs.Prelude.{◌≡◌, ℕ, ◌≤◌, Bool, List, length}
use Rattle.pace_core.specs.Words.{IsConf, HasOneConf, SimValue}
use Rattle.spec_core.specs.Specialiser.{SpecialiserValue}
use Rattle.pace_core.specs.Backlog.{BacklogValue, IsBehind}

pub record Keeps (s : SpecialiserValue) (b : BacklogValue) (sim : SimValue) (rate luts depth : ℕ) : Type 0 where
  pub right : IsConf s.pack s.state.params s.state.config
  pub one : (given : List Bool) → length given ≡ length s.pack.params → HasOneConf s.pack given
  pub params : length s.state.params ≡ length s.pack.params
  pub behind : IsBehind b s.state.config
  pub bits : length s.pack.bits ≡ sim.template.bits
  pub takes : 1 ≤ rate
  pub luts_are : luts ≡ length sim.template.luts
  pub depth_is : depth ≡ sim.template.depth
