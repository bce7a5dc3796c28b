-- The machine at a limited rate, as a relation over configurations that are specialised from scratch (`IsConf`): the values that were asked for last, the configuration that the device has, and the circuit with its states.
use Rattle.std.specs.Prelude.{◌≡◌, ℕ, ◌<◌, Bool, List, [], ◌∷◌, length, take}
use Rattle.machine.specs.Machine.{MealyMachine, Passes}
use Rattle.pace_core.specs.Words.{Assign, Write, assigned, written, PackValue, IsConf, SimValue, differences}
use Rattle.lut_sim.specs.Cycle.{IsTableCycle, IsOnlyTableCycle}
use Rattle.run_text.specs.Lines.{cycle_line, ask_line, wait_line}
use Rattle.pace_core.specs.EventValue.{PaceValue, Ask, Tick, Fits}

pub record PacerValue : Type 0 where
  pub pack : PackValue
  pub params : List Bool
  pub config : List Bool
  pub sim : SimValue
  -- how many bits the port takes at a tick
  pub rate : ℕ
  -- how many pairs of the pack were read and addresses looked at since it was made
  pub looks : ℕ

-- what an event shows: how many bits differ from those that are asked for, the bits that a tick wrote, or a cycle's outputs and the states after it
pub data Shown : Type 0 where
  asked : ℕ → Shown
  waited : List Write → Shown
  cycled : List Bool → List Bool → Shown

-- its line
abbrev pub shown_line : Shown → List ℕ
shown_line (asked count) = ask_line count
shown_line (waited writes) = wait_line writes
shown_line (cycled outputs states) = cycle_line outputs states

-- An ask: the values change, and nothing is written. (What an event looks at is said apart, by its cost.)
pub record IsAsked (assigns : List Assign) (old new : PacerValue) (shown : Shown) : Type 0 where
  pub wanted : List Bool
  pub conf : IsConf old.pack (assigned old.params assigns) wanted
  pub shows : shown ≡ asked (length (differences old.config wanted))
  pub becomes : new ≡ record old { params = assigned old.params assigns; looks = new.looks }

-- A tick at which the device has the configuration of the values: a cycle of the LUTs under it, and the only one.
pub record IsStep (values : List Bool) (old new : PacerValue) (shown : Shown) : Type 0 where
  pub right : IsConf old.pack old.params old.config
  pub outputs : List Bool
  pub states : List Bool
  pub cycle : IsTableCycle old.sim.template old.sim.shape old.config values old.sim.states outputs states
  pub only : IsOnlyTableCycle old.sim.template old.sim.shape old.config values old.sim.states outputs states
  pub shows : shown ≡ cycled outputs states
  pub becomes : new ≡ record old { sim = record old.sim { outputs = outputs; states = states } }

-- A tick at which it has another one: the first bits that differ are written, and nothing else changes.
pub record IsWait (old new : PacerValue) (shown : Shown) : Type 0 where
  pub wanted : List Bool
  pub conf : IsConf old.pack old.params wanted
  pub behind : 0 < length (differences old.config wanted)
  pub shows : shown ≡ waited (take old.rate (differences old.config wanted))
  pub becomes : new ≡ record old { config = written old.config (take old.rate (differences old.config wanted)); looks = new.looks }

pub data IsTicked (values : List Bool) (old new : PacerValue) (shown : Shown) : Type 0 where
  steps : IsStep values old new shown → IsTicked values old new shown
  waits : IsWait old new shown → IsTicked values old new shown

-- what an event makes of the machine, and what it shows
abbrev pub IsPaced : PaceValue → PacerValue → PacerValue → Shown → Type 0
IsPaced (Ask assigns) old new shown = IsAsked assigns old new shown
IsPaced (Tick values) old new shown = IsTicked values old new shown

-- the machine of asks and ticks: it starts wherever the device has the configuration of the values that were asked for (`IsPaceStart` of `cmd_pace` says where a job's script starts), and in a cycle it takes an event and shows it
abbrev pub pacer_machine : MealyMachine PaceValue PacerValue Shown
pacer_machine = record { IsStart = λ p. IsConf p.pack p.params p.config; HasCycle = λ event old shown new. IsPaced event old new shown }

-- events one after the other, what each shows, and the machine after them
abbrev pub ArePaced : PacerValue → List PaceValue → List Shown → PacerValue → Type 0
ArePaced = Passes pacer_machine

-- an event fits the machine: it names parameters of the pack, each once, or has a value for each regular input
abbrev pub FitsPacer : PacerValue → PaceValue → Type 0
FitsPacer pacer event = Fits (length pacer.pack.params) pacer.sim.shape.regular event
