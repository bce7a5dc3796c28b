-- The host of a pack: initially, and after events; and that packs with the same configurations show the same for the same script.
use Rattle.std.specs.Prelude.{◌≡◌, Bool, List, [], ◌∷◌, ℕ, length}
use Rattle.cmd_stations.specs.Words.{MealyMachine, Passes, PackValue, IsConf, HasOneConf, inits_of, EventValue, IsHostPlayed, IsSteady, host_line, IsOfHost, AreSame}
use Rattle.spec_core.specs.Specialiser.{SpecialiserValue}

-- the host at the start: under any values of the parameters there is one configuration; they have the pack's values, with their configuration
pub record IsHostStart (own : PackValue) (h : SpecialiserValue) : Type 0 where
  pub pack : h.pack ≡ own
  pub one_config : (given : List Bool) → length given ≡ length own.params → HasOneConf own given
  pub params : h.state.params ≡ inits_of own.params
  pub config : IsConf own (inits_of own.params) h.state.config

-- an event of the host was played
pub record IsHostStep (event : EventValue) (old new : SpecialiserValue) : Type 0 where
  pub of_host : IsOfHost event
  pub played : IsHostPlayed event old new
  pub steady : IsSteady event old new

-- the machine of a script that a host plays: it starts as the host of its pack, and in a cycle it takes an event and gives its line
abbrev pub host_machine : MealyMachine EventValue SpecialiserValue (List ℕ)
host_machine = record { IsStart = λ h. IsHostStart h.pack h; HasCycle = λ event old line new. IsHostStep event old new × line ≡ host_line event new }

-- some events one after the other, with their lines
abbrev pub AreHostSteps : SpecialiserValue → List EventValue → List (List ℕ) → SpecialiserValue → Type 0
AreHostSteps = Passes host_machine

-- hosts that start on two packs put the same lines for the same events
pub record HaveSameLines (p q : PackValue) : Type 0 where
  pub are : (h k : SpecialiserValue) → IsHostStart p h → IsHostStart q k → (events : List EventValue) (lines others : List (List ℕ)) (end last : SpecialiserValue)
      → AreHostSteps h events lines end → AreHostSteps k events others last → lines ≡ others

-- so do those on packs with the same parameters, graph and bits
abbrev pub SamePacksReplay : Type 0
SamePacksReplay = (p q : PackValue) → AreSame p q → HaveSameLines p q
