-- The machine of a job with its ports: initially, and after events.
use Rattle.std.specs.Prelude.{◌≡◌, ℕ, Bool, List, [], ◌∷◌, length, Ok}
use Rattle.cmd_stations.specs.Words.{MealyMachine, Passes, PackValue, IsConf, HasOneConf, EventValue, param_inits, MachineValue, IsPlayed, IsSteady, event_line, AreInits, TemplateValue}
use Rattle.tl_io.specs.Writes.{writes_from}
use Rattle.lut_sim.specs.Sim.{SimValue}
use Rattle.port_bank.specs.Bank.{BankSeen}
use Rattle.port_bank.specs.Image.{Holds}
use Rattle.port_bank.specs.Moves.{Becomes, KeepsPlaces}
use Rattle.port_bank.specs.Send.{Plays}
use Rattle.run_core.specs.Ends.{HasSent}
use Rattle.cmd_stations.specs.Mapped.{template_header}
use Rattle.cmd_stations.specs.SourceCircuit.{shape_of}
use Rattle.cmd_stations.specs.Tunable.{IsTunable}
use Rattle.cmd_stations.specs.declared.source.Source.{Source}

-- a job: a source circuit, the template that it is mapped to, and the events of a script
pub record Job : Type 0 where
  pub source : Source
  pub template : TemplateValue
  pub events : List EventValue

-- A machine at the start of a source circuit by a template, by its pack, its values, its configuration and its circuit: under any values of the parameters there is one configuration; they have their listed values, with their configuration, and the latches their inits.
pub record IsSourceStart (source : Source) (mapped : TemplateValue) (own : PackValue) (values bits : List Bool) (sim : SimValue) : Type 0 where
  pub pack : IsTunable source mapped own
  pub one_config : (given : List Bool) → length given ≡ length own.params → HasOneConf own given
  pub params : values ≡ param_inits source.params.list
  pub config : IsConf own (param_inits source.params.list) bits
  pub template : sim.template ≡ mapped
  pub shape : sim.shape ≡ shape_of source
  pub states : AreInits source.netlist.library sim.states

abbrev pub IsStart : Job → MachineValue → Type 0
IsStart job m = IsSourceStart job.source job.template m.host.pack m.host.state.params m.host.state.config m.sim

-- the header line: the numbers of the template
abbrev pub machine_header : MachineValue → List ℕ
machine_header m = template_header m.sim.template

-- a machine with its ports
pub record Stage : Type 0 where
  pub machine : MachineValue
  pub bank : BankSeen

-- the whole configuration was written to the ports, and they hold it
pub record IsLoaded (config : List Bool) (old new : BankSeen) : Type 0 where
  pub plays : Plays config (writes_from 0 config) old new (Ok tt)
  pub becomes : Becomes old new
  pub places : KeepsPlaces old new
  pub holds : Holds config new

-- an event was played, all its writes were sent, and the ports hold the configuration after it
pub record IsStep (event : EventValue) (old new : Stage) : Type 0 where
  pub played : IsPlayed event old.machine new.machine
  pub steady : IsSteady event old.machine.host new.machine.host
  pub sent : HasSent event new.machine.host old.bank new.bank
  pub becomes : Becomes old.bank new.bank
  pub places : KeepsPlaces old.bank new.bank
  pub holds : Holds new.machine.host.state.config new.bank

-- The machine of a script: it starts wherever the ports hold the configuration (`HasCome` says where a job's script starts), and in a cycle it takes an event and gives its line.
abbrev pub script_machine : MealyMachine EventValue Stage (List ℕ)
script_machine = record { IsStart = λ stage. Holds stage.machine.host.state.config stage.bank; HasCycle = λ event old line new. IsStep event old new × line ≡ event_line event new.machine }

-- some events one after the other, with their lines
abbrev pub AreSteps : Stage → List EventValue → List (List ℕ) → Stage → Type 0
AreSteps = Passes script_machine

-- the full load of the ports, and then some events
pub record HasCome (m : MachineValue) (ports : BankSeen) (events : List EventValue) (lines : List (List ℕ)) (stage : Stage) : Type 0 where
  pub loaded : BankSeen
  pub load : IsLoaded m.host.state.config ports loaded
  pub steps : AreSteps (record { machine = m; bank = loaded }) events lines stage
