-- The headline of `pace`, in the field's words: whatever asks and ticks come, a tick writes at most as many bits as the port takes, and the circuit steps only where the device has the configuration that is specialised from scratch for the values that were asked for last; so each step is a cycle of the source circuit under these values.
use Rattle.std.specs.Prelude.{◌≡◌, ℕ, ◌≤◌, ◌<◌, Bool, List, [], ◌∷◌, length, map, take}
use Rattle.std.specs.List.{concat}
use Rattle.machine.specs.Machine.{MealyMachine, Passes}
use Rattle.tl_io.specs.Assigns.{assigned}
use Rattle.tl_io.specs.Content.{extended}
use Rattle.cmd_pace.specs.Words.{Files, TemplateValue, PaceValue, Ask, Tick, PacerValue, Shown, shown_line, ArePaced, Outside, Source, IsLeastMapping, template_header}
use Rattle.tl_io.specs.Writes.{written}
use Rattle.aig_core.specs.Aig.{Aig}
use Rattle.netlist.specs.Runs.{AreInits}
use Rattle.netlist.specs.Sound.{IsSound}
use Rattle.lut_sim.specs.Cycle.{IsTableCycle, IsOnlyTableCycle}
use Rattle.bit_fun.specs.Configuration.{IsConfiguration}
use Rattle.param_list.specs.Parameters.{param_inits}
use Rattle.ppc_pack.specs.Pack.{IsConf}
use Rattle.run_text.specs.Lines.{cycle_line, ask_line, wait_line}
use Rattle.spec_core.specs.Differences.{differences}
use Rattle.pace_core.specs.Stalls.{HasStalls}
use Rattle.cmd_stations.specs.SourceCircuit.{shape_of, IsSourceCycle}
use Rattle.cmd_pace.specs.Job.{PaceJob, IsPaceJob, IsPaceStart, PaceWords}

-- what is shown of a source circuit: the values that were asked for last, the configuration that the device has, and the latches' states
pub record PaceStage : Type 0 where
  pub params : List Bool
  pub config : List Bool
  pub states : List Bool

-- what a machine shows of it
abbrev pub stage_of : PacerValue → PaceStage
stage_of p = record { params = p.params; config = p.config; states = p.sim.states }

module _ (source : Source) (g : Aig) (template : TemplateValue) (rate : ℕ) where
  -- An ask: its line says at how many addresses the device's configuration differs from the one specialised from scratch for the new values; nothing is written, and no state changes.
  pub record ShowsAsk (asked : List Bool) (old : PaceStage) (line : List ℕ) (new : PaceStage) : Type 0 where
    pub wanted : List Bool
    pub is : IsConfiguration g template.luts asked wanted
    pub line_is : line ≡ ask_line (length (differences old.config wanted))
    pub becomes : new ≡ record old { params = asked }

  -- A tick that steps: the device has the configuration specialised from scratch for the values that were asked for last; the LUTs are played under it, and no other values fit them; the outputs and the states are those of the source circuit's cycle under the values that were asked for.
  pub record ShowsStep (values : List Bool) (old : PaceStage) (line : List ℕ) (new : PaceStage) : Type 0 where
    pub is : IsConfiguration g template.luts old.params old.config
    pub outputs : List Bool
    pub is_play : IsTableCycle template (shape_of source) old.config values old.states outputs new.states
    pub plays : IsOnlyTableCycle template (shape_of source) old.config values old.states outputs new.states
    pub cycle : IsSourceCycle source old.params values old.states outputs new.states
    pub line_is : line ≡ cycle_line outputs new.states
    pub becomes : new ≡ record old { states = new.states }

  -- A tick that waits: the device has another configuration; the first bits that differ are written, as many as the port takes or all where they are fewer, and no state changes.
  pub record ShowsWait (old : PaceStage) (line : List ℕ) (new : PaceStage) : Type 0 where
    pub wanted : List Bool
    pub is : IsConfiguration g template.luts old.params wanted
    pub behind : 0 < length (differences old.config wanted)
    pub line_is : line ≡ wait_line (take rate (differences old.config wanted))
    pub few : length (take rate (differences old.config wanted)) ≤ rate
    pub becomes : new ≡ record old { config = written old.config (take rate (differences old.config wanted)) }

  pub data ShowsTick (values : List Bool) (old : PaceStage) (line : List ℕ) (new : PaceStage) : Type 0 where
    steps : ShowsStep values old line new → ShowsTick values old line new
    waits : ShowsWait old line new → ShowsTick values old line new

  abbrev pub Shows : PaceValue → PaceStage → List ℕ → PaceStage → Type 0
  Shows (Ask assigns) old line new = ShowsAsk (assigned old.params assigns) old line new
  Shows (Tick values) old line new = ShowsTick values old line new

  -- the parameters' listed values, their configuration specialised from scratch, and the latches' inits
  pub record IsFirst (first : PaceStage) : Type 0 where
    pub params : first.params ≡ param_inits source.params.list
    pub config : IsConfiguration g template.luts (param_inits source.params.list) first.config
    pub states : AreInits source.netlist.library first.states

  -- the machine that asks and ticks show of the source circuit, and some events one after the other, with their lines
  abbrev pub shown_pace_machine : MealyMachine PaceValue PaceStage (List ℕ)
  shown_pace_machine = record { IsStart = IsFirst; HasCycle = Shows }

  abbrev pub ShowAll : PaceStage → List PaceValue → List (List ℕ) → PaceStage → Type 0
  ShowAll = Passes shown_pace_machine

-- However the machine was asked and however it ticked, the ticks that come next wait while the bits that differ then aren't written, as many a tick as the port takes, and each later tick is a cycle.
abbrev pub StallsAnywhere : PacerValue → Type 0
StallsAnywhere pacer = (events : List PaceValue) (shown : List Shown) (mid : PacerValue) → ArePaced pacer events shown mid → (wanted : List Bool) → IsConf mid.pack mid.params wanted → HasStalls mid (length (differences mid.config wanted))

-- A job that is done shows its source circuit, by the chosen template of this netlist, list, K and rule, which is mapped with the least depth. The lines are those of a machine at the start of this job that played its events; of this machine it is said how long it waits.
pub record HasPaceHeadline (files : Files) (words : PaceWords) (old new : Outside) : Type 0 where
  pub job : PaceJob
  pub is_job : IsPaceJob files words job
  pub sound : IsSound job.source.netlist.library
  pub least : IsLeastMapping is_job.is.mapped.mapped.graph words.source.k is_job.is.mapped.mapped.roots job.template
  pub lines : List (List ℕ)
  pub bytes : new.bytes ≡ extended old.bytes (concat (template_header job.template ∷ lines))
  pub first : PaceStage
  pub is_first : IsFirst job.source is_job.is.mapped.mapped.graph job.template words.rate first
  pub end : PaceStage
  pub shows : ShowAll job.source is_job.is.mapped.mapped.graph job.template words.rate first job.events lines end
  pub pacer : PacerValue
  pub start : IsPaceStart job words.rate pacer
  pub first_is : first ≡ stage_of pacer
  pub shown : List Shown
  pub last : PacerValue
  pub played : ArePaced pacer job.events shown last
  pub lines_are : lines ≡ map shown_line shown
  pub end_is : end ≡ stage_of last
  pub stalls : StallsAnywhere pacer
