-- The script machine: the host's part, which has the parameters' values and the configuration, and the circuit of LUTs that the clock plays under this configuration. Each event gives a new state and its writes.
use Rattle.std.specs.Prelude.{◌≡◌, ℕ, Bool, List, [], ◌<◌, length}
use Rattle.ppc_pack.specs.Pack.{IsConf, PackValue}
use Rattle.run_text.specs.EventValue.{EventValue, Set, Cycle, Upset, Scrub, Image}
use Rattle.lut_sim.specs.Cycle.{IsTableCycle, IsOnlyTableCycle}
use Rattle.lut_sim.specs.Sim.{SimValue}
use Rattle.spec_core.specs.Events.{IsSet, IsUpset, IsScrub}
use Rattle.spec_core.specs.Specialiser.{SpecialiserValue}
use Rattle.spec_core.specs.Touched.{IsWithinTouched}
use Rattle.run_text.specs.Lines.{set_line, scrub_line, upset_line, cycle_line, image_line}
use Rattle.spec_core.specs.Differences.{write_of}
use Rattle.tl_io.specs.Assigns.{AreAssigned}
use Rattle.lut_sim.specs.declared.shape.Shape.{Shape}

-- the host's part, and the circuit with its latches' states and the outputs of its last cycle
pub record MachineValue : Type 0 where
  pub host : SpecialiserValue
  pub sim : SimValue

-- what an event makes of the host's part
abbrev pub IsHostEvent : EventValue → SpecialiserValue → SpecialiserValue → Type 0
IsHostEvent (Set assigns) old new = IsSet old.pack assigns old.state new.writes new.state
IsHostEvent (Cycle values) old new = new ≡ old
IsHostEvent (Upset address) old new = IsUpset address old.state new.writes new.state
IsHostEvent Scrub old new = IsScrub old.pack old.state new.writes new.state
IsHostEvent Image old new = new ≡ old

-- what an event makes of the circuit, under a configuration: a cycle is one of its LUTs, and nothing else changes it
abbrev pub IsClockEvent : EventValue → List Bool → SimValue → SimValue → Type 0
IsClockEvent (Set assigns) config old new = new ≡ old
IsClockEvent (Cycle values) config old new = IsTableCycle old.template old.shape config values old.states new.outputs new.states
IsClockEvent (Upset address) config old new = new ≡ old
IsClockEvent Scrub config old new = new ≡ old
IsClockEvent Image config old new = new ≡ old

-- whatever values fit the LUTs, a cycle's outputs and states are theirs
abbrev pub HasOneCycle : EventValue → List Bool → SimValue → SimValue → Type 0
HasOneCycle (Set assigns) config old new = Unit {0}
HasOneCycle (Cycle values) config old new = IsOnlyTableCycle old.template old.shape config values old.states new.outputs new.states
HasOneCycle (Upset address) config old new = Unit {0}
HasOneCycle Scrub config old new = Unit {0}
HasOneCycle Image config old new = Unit {0}

-- an event of the host was played
pub record IsHostPlayed (event : EventValue) (old new : SpecialiserValue) : Type 0 where
  pub pack : new.pack ≡ old.pack
  pub is : IsHostEvent event old new

-- an event was played: a cycle over the configuration that stands, with bits that were upset
pub record IsPlayed (event : EventValue) (old new : MachineValue) : Type 0 where
  pub host : IsHostPlayed event old.host new.host
  pub template : new.sim.template ≡ old.sim.template
  pub shape : new.sim.shape ≡ old.sim.shape
  pub clock : IsClockEvent event old.host.state.config old.sim new.sim
  pub one : HasOneCycle event old.host.state.config old.sim new.sim

-- the steps that an event takes: a change of parameters at most one for each touched node, and no other event any
abbrev pub IsWithinSteps : EventValue → SpecialiserValue → SpecialiserValue → ℕ → ℕ → Type 0
IsWithinSteps (Set assigns) old new start end = IsWithinTouched old.pack.graph old.state.params new.state.params start end
IsWithinSteps (Cycle values) old new start end = end ≡ start
IsWithinSteps (Upset address) old new start end = end ≡ start
IsWithinSteps Scrub old new start end = end ≡ start
IsWithinSteps Image old new start end = end ≡ start

-- the configuration of the device is the one specialised from scratch: no bit is upset
abbrev pub IsRight : SpecialiserValue → Type 0
IsRight host = IsConf host.pack host.state.params host.state.config

-- where no bit is upset, only an upset makes one; after a scrub none does
abbrev pub IsSteady : EventValue → SpecialiserValue → SpecialiserValue → Type 0
IsSteady (Set assigns) old new = IsRight old → IsRight new
IsSteady (Cycle values) old new = IsRight old → IsRight new
IsSteady (Upset address) old new = Unit {0}
IsSteady Scrub old new = IsRight new
IsSteady Image old new = IsRight old → IsRight new

-- of an event of the host; a cycle is none
abbrev pub host_line : EventValue → SpecialiserValue → List ℕ
host_line (Set assigns) host = set_line host.writes
host_line (Cycle values) host = []
host_line (Upset address) host = upset_line (write_of host.state.config address)
host_line Scrub host = scrub_line host.writes
host_line Image host = image_line host.state.config

-- of any event
abbrev pub event_line : EventValue → MachineValue → List ℕ
event_line (Set assigns) machine = host_line (Set assigns) machine.host
event_line (Cycle values) machine = cycle_line machine.sim.outputs machine.sim.states
event_line (Upset address) machine = host_line (Upset address) machine.host
event_line Scrub machine = host_line Scrub machine.host
event_line Image machine = host_line Image machine.host

-- an event names parameters of the pack, each once, or one of its addresses
abbrev pub FitsPack : PackValue → EventValue → Type 0
FitsPack pack (Set assigns) = AreAssigned (length pack.params) assigns
FitsPack pack (Cycle values) = Unit {0}
FitsPack pack (Upset address) = address < length pack.bits
FitsPack pack Scrub = Unit {0}
FitsPack pack Image = Unit {0}

-- a cycle has a value for each regular input
abbrev pub FitsShape : Shape → EventValue → Type 0
FitsShape shape (Set assigns) = Unit {0}
FitsShape shape (Cycle values) = length values ≡ shape.regular
FitsShape shape (Upset address) = Unit {0}
FitsShape shape Scrub = Unit {0}
FitsShape shape Image = Unit {0}

-- an event of the host: the clock does not tick
abbrev pub IsOfHost : EventValue → Type 0
IsOfHost (Set assigns) = Unit {0}
IsOfHost (Cycle values) = ⊥
IsOfHost (Upset address) = Unit {0}
IsOfHost Scrub = Unit {0}
IsOfHost Image = Unit {0}
