-- What the events of a script add up to: the writes of its changes, and the outputs of its cycles read as numbers.
use Rattle.std.specs.Prelude.{◌≡◌, ℕ, ◌+◌, ◌^◌, ◌≤◌, List, length}
use Rattle.cmd_run.specs.Words.{MealyMachine, Passes, EventValue, Set, Cycle, Upset, Scrub, Image, MachineValue, IsPlayed}
use Rattle.list_laws.specs.Digits.{number}

-- how many bits a change writes
abbrev pub writes_of : EventValue → MachineValue → ℕ
writes_of (Set assigns) m = length m.host.writes
writes_of (Cycle values) m = 0
writes_of (Upset address) m = 0
writes_of Scrub m = 0
writes_of Image m = 0

-- the outputs after a cycle as a binary number, the first output the lowest digit
abbrev pub output_of : EventValue → MachineValue → ℕ
output_of (Set assigns) m = 0
output_of (Cycle values) m = number m.sim.outputs
output_of (Upset address) m = 0
output_of Scrub m = 0
output_of Image m = 0

-- a machine, and what its events added up to
pub record TalliedMachine : Type 0 where
  pub machine : MachineValue
  pub writes : ℕ
  pub total : ℕ

-- the machine that adds up: in a cycle it plays an event
abbrev pub tally_machine : MealyMachine EventValue TalliedMachine (Unit {0})
tally_machine = record {
  IsStart = λ tally. tally.writes ≡ 0 × tally.total ≡ 0;
  HasCycle = λ event old shown new. IsPlayed event old.machine new.machine × new.writes ≡ old.writes + writes_of event new.machine × new.total ≡ old.total + output_of event new.machine;
}

-- some events one after the other, and what they add up to
pub record Totals (old : MachineValue) (events : List EventValue) (writes total : ℕ) (new : MachineValue) : Type 0 where
  pub shown : List (Unit {0})
  pub passes : Passes tally_machine (record { machine = old; writes = 0; total = 0 }) events shown (record { machine = new; writes = writes; total = total })

-- So few events of a machine with so few bits and outputs that what they add up to fits its types: 64 bits for the writes, and 128 for the outputs.
pub record IsSmall (events : List EventValue) (m : MachineValue) : Type 0 where
  pub few : length events ≤ 2 ^ 20
  pub bits : length m.host.pack.bits ≤ 2 ^ 25
  pub outputs : length m.sim.template.outputs ≤ 66
