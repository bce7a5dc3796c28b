-- How a step ends: its event is played; then its writes are sent; then its line is put.
use Rattle.std.specs.Prelude.{◌≡◌, Bool, List, Ok, Err, ℕ, ◌<◌, ◌≤◌, length, take, Option, Result}
use Rattle.tl_io.specs.declared.Write.{Write}
use Rattle.port_bank.specs.declared.bank.PortFault.{PortFault as Fault}
use Rattle.port_bank.specs.Bank.{BankSeen}
use Rattle.port_bank.specs.Send.{Plays}
use Rattle.run_text.specs.EventValue.{EventValue, Set, Cycle, Upset, Scrub, Image}
use Rattle.spec_core.specs.Specialiser.{SpecialiserValue}
use Rattle.tl_io.specs.Causes.{Rose}
use Rattle.tl_io.specs.Content.{extended}
use Rattle.tl_io.specs.Sink.{SinkSeen}
use Rattle.tl_io.specs.Writes.{writes_from}
use Rattle.port_bank.specs.Image.{Holds}
use Rattle.port_bank.specs.Moves.{Becomes, FallsShort, KeepsPlaces, LosesPlace}
use Rattle.run_core.specs.declared.step_err.StepErr.{StepErr}
use Rattle.run_core.specs.declared.step_err.StepErr.TheVariants.{WriteFault, PortFault}

-- all writes were sent; a cycle and an image send nothing
abbrev pub HasSent : EventValue → SpecialiserValue → BankSeen → BankSeen → Type 0
HasSent (Set assigns) host old new = Plays host.state.config host.writes old new (Ok tt)
HasSent (Cycle values) host old new = new ≡ old
HasSent (Upset address) host old new = Plays host.state.config host.writes old new (Ok tt)
HasSent Scrub host old new = Plays host.state.config host.writes old new (Ok tt)
HasSent Image host old new = new ≡ old

-- a region lost its port in a send of these writes
pub record LosesRegion (config : List Bool) (writes : List Write) (old new : BankSeen) : Type 0 where
  pub fault : Fault
  pub plays : Plays config writes old new (Err fault)

-- the send of an event met a region that lost its port; a cycle and an image can't
abbrev pub HasLost : EventValue → SpecialiserValue → BankSeen → BankSeen → Type 0
HasLost (Set assigns) host old new = LosesRegion host.state.config host.writes old new
HasLost (Cycle values) host old new = ⊥
HasLost (Upset address) host old new = LosesRegion host.state.config host.writes old new
HasLost Scrub host old new = LosesRegion host.state.config host.writes old new
HasLost Image host old new = ⊥

-- the whole send was made, or it met a region that lost its port
abbrev pub IsSent : EventValue → SpecialiserValue → BankSeen → BankSeen → Result Unit StepErr → Type 0
IsSent event host old new (Ok done) = HasSent event host old new
IsSent event host old new (Err WriteFault) = HasSent event host old new
IsSent event host old new (Err PortFault) = HasLost event host old new

-- the whole line was put, or a prefix of it, or none of its bytes
abbrev pub HasLine : List ℕ → Option (List ℕ) → Option (List ℕ) → Result Unit StepErr → Type 0
HasLine line old new (Ok done) = new ≡ extended old line
HasLine line old new (Err WriteFault) = (n : ℕ) × (n < length line) × (new ≡ extended old (take n line))
HasLine line old new (Err PortFault) = new ≡ old

-- A fault of writing comes only where the sink's count rose, and no call of the sink is made after a fault of a port.
abbrev pub HasSinkCause : ℕ → ℕ → Result Unit StepErr → Type 0
HasSinkCause before now (Ok done) = before ≤ now
HasSinkCause before now (Err WriteFault) = (before ≤ now) × Rose before now
HasSinkCause before now (Err PortFault) = now ≡ before

-- what a step leaves of the sink: its line there, and what stands behind the sink
pub record PutsLine (line : List ℕ) (old new : SinkSeen) (result : Result Unit StepErr) : Type 0 where
  pub grown : HasLine line old.bytes new.bytes result
  pub cause : HasSinkCause old.faults new.faults result
  pub through : new.through ≡ old.through
  pub others : new.others ≡ old.others

-- spares took the places of ports that failed, or one failed while no spare was left
abbrev pub LeavesPorts : BankSeen → BankSeen → Result Unit StepErr → Type 0
LeavesPorts old new (Ok done) = Becomes old new
LeavesPorts old new (Err WriteFault) = Becomes old new
LeavesPorts old new (Err PortFault) = FallsShort old new

-- every region still has its port, or one has none
abbrev pub HasPlaces : BankSeen → BankSeen → Result Unit StepErr → Type 0
HasPlaces old new (Ok done) = KeepsPlaces old new
HasPlaces old new (Err WriteFault) = KeepsPlaces old new
HasPlaces old new (Err PortFault) = LosesPlace old new

-- where the bank held the configuration before the step, it holds the one after it, unless a region lost its port
abbrev pub StillHolds : SpecialiserValue → SpecialiserValue → BankSeen → BankSeen → Result Unit StepErr → Type 0
StillHolds before after old new (Ok done) = Holds before.state.config old → Holds after.state.config new
StillHolds before after old new (Err WriteFault) = Holds before.state.config old → Holds after.state.config new
StillHolds before after old new (Err PortFault) = Unit {0}

-- the whole configuration was written, or a region lost its port
abbrev pub IsLoaded : List Bool → BankSeen → BankSeen → Result Unit StepErr → Type 0
IsLoaded config old new (Ok done) = Plays config (writes_from 0 config) old new (Ok tt)
IsLoaded config old new (Err WriteFault) = ⊥
IsLoaded config old new (Err PortFault) = LosesRegion config (writes_from 0 config) old new
