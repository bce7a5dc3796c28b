-- The headline, in the field's words: a mapping of the source circuit's graph of the least depth, and, for scripts without upsets, its cycles, and at each change exactly the bits in which the configurations specialised from scratch before and after differ.
use Rattle.std.specs.Prelude.{◌≡◌, ℕ, Bool, List, [], ◌∷◌, Ok}
use Rattle.std.specs.List.{concat}
use Rattle.cmd_run.specs.Words.{In, MealyMachine, Passes, extended, Files, writes_from, TemplateValue, BankSeen, all_ports, EventValue, Set, Cycle, Upset, Scrub, Image, Outside, Source, Job, IsLeastMapping, template_header}
use Rattle.tl_io.specs.Assigns.{assigned}
use Rattle.aig_core.specs.Aig.{Aig}
use Rattle.netlist.specs.Runs.{AreInits}
use Rattle.netlist.specs.Sound.{IsSound}
use Rattle.lut_sim.specs.Cycle.{IsTableCycle, IsOnlyTableCycle}
use Rattle.bit_fun.specs.Configuration.{IsConfiguration}
use Rattle.port_bank.specs.Send.{Plays}
use Rattle.run_text.specs.Lines.{set_line, scrub_line, cycle_line, image_line}
use Rattle.param_list.specs.Parameters.{param_inits}
use Rattle.spec_core.specs.Differences.{differences}
use Rattle.cmd_stations.specs.SourceCircuit.{shape_of, IsSourceCycle}
use Rattle.cmd_run.specs.Run.Job.{IsJob, RunWords, bank_of}

-- what is shown of a source circuit: the parameters' values that were set last, the latches' states, and the ports
pub record ShownSource : Type 0 where
  pub params : List Bool
  pub states : List Bool
  pub bank : BankSeen

-- a script has no upsets
abbrev pub IsNoUpset : EventValue → Type 0
IsNoUpset (Set assigns) = Unit {0}
IsNoUpset (Cycle values) = Unit {0}
IsNoUpset (Upset address) = ⊥
IsNoUpset Scrub = Unit {0}
IsNoUpset Image = Unit {0}

module _ (source : Source) (g : Aig) (template : TemplateValue) where
  -- Parameters change: the line and the writes to the ports are the addresses where the configurations specialised from scratch before and after differ, each with its bit after the change.
  pub record ShowsSet (assigned_to : List Bool) (old : ShownSource) (line : List ℕ) (new : ShownSource) : Type 0 where
    pub from : List Bool
    pub before : IsConfiguration g template.luts old.params from
    pub to : List Bool
    pub after : IsConfiguration g template.luts assigned_to to
    pub line_is : line ≡ set_line (differences from to)
    pub params : new.params ≡ assigned_to
    pub states : new.states ≡ old.states
    pub sent : Plays to (differences from to) old.bank new.bank (Ok tt)

  -- The clock ticks: the LUTs are played under the configuration specialised from scratch for the parameters' values that were set last, and no other values fit them; the outputs and the states are those of the source circuit's cycle under these values.
  pub record ShowsCycle (values : List Bool) (old : ShownSource) (line : List ℕ) (new : ShownSource) : Type 0 where
    pub outputs : List Bool
    pub config : List Bool
    pub is : IsConfiguration g template.luts old.params config
    pub is_play : IsTableCycle template (shape_of source) config values old.states outputs new.states
    pub plays : IsOnlyTableCycle template (shape_of source) config values old.states outputs new.states
    pub cycle : IsSourceCycle source old.params values old.states outputs new.states
    pub line_is : line ≡ cycle_line outputs new.states
    pub params : new.params ≡ old.params
    pub bank : new.bank ≡ old.bank

  -- no bit is upset, so there is nothing to correct
  pub record ShowsScrub (old : ShownSource) (line : List ℕ) (new : ShownSource) : Type 0 where
    pub line_is : line ≡ scrub_line []
    pub same : new ≡ old

  -- the configuration specialised from scratch
  pub record ShowsImage (old : ShownSource) (line : List ℕ) (new : ShownSource) : Type 0 where
    pub config : List Bool
    pub is : IsConfiguration g template.luts old.params config
    pub line_is : line ≡ image_line config
    pub same : new ≡ old

  abbrev pub Shows : EventValue → ShownSource → List ℕ → ShownSource → Type 0
  Shows (Set assigns) old line new = ShowsSet (assigned old.params assigns) old line new
  Shows (Cycle values) old line new = ShowsCycle values old line new
  Shows (Upset address) old line new = ⊥
  Shows Scrub old line new = ShowsScrub old line new
  Shows Image old line new = ShowsImage old line new

  -- the parameters' listed values, the latches' inits, and the ports with the configuration specialised from scratch for these values
  pub record IsShownFirst (ports : BankSeen) (first : ShownSource) : Type 0 where
    pub params : first.params ≡ param_inits source.params.list
    pub states : AreInits source.netlist.library first.states
    pub config : List Bool
    pub is : IsConfiguration g template.luts (param_inits source.params.list) config
    pub load : Plays config (writes_from 0 config) ports first.bank (Ok tt)

  -- the machine that a script shows of the source circuit, and some events one after the other, with their lines
  abbrev pub shown_run_machine : MealyMachine EventValue ShownSource (List ℕ)
  shown_run_machine = record { IsStart = λ first. (ports : BankSeen) × IsShownFirst ports first; HasCycle = Shows }

  abbrev pub ShowAll : ShownSource → List EventValue → List (List ℕ) → ShownSource → Type 0
  ShowAll = Passes shown_run_machine

-- the lines of a script without upsets, and the ports after it
pub record ShowsSource (source : Source) (g : Aig) (template : TemplateValue) (events : List EventValue) (lines : List (List ℕ)) (ports last : BankSeen) : Type 0 where
  pub first : ShownSource
  pub is_first : IsShownFirst source g template ports first
  pub end : ShownSource
  pub all : ShowAll source g template first events lines end
  pub bank : last ≡ end.bank

-- A job that is done shows its source circuit, by the chosen template of this netlist, list, K and rule, which is mapped with the least depth: the header has the template's numbers, the changes are of the configurations of its LUTs, and the cycles are their play.
pub record HasHeadline (files : Files) (run : RunWords) (old new : Outside) : Type 0 where
  pub job : Job
  pub is_job : IsJob files run job
  pub sound : IsSound job.source.netlist.library
  pub least : IsLeastMapping is_job.mapped.mapped.graph run.source.k is_job.mapped.mapped.roots job.template
  pub lines : List (List ℕ)
  pub bytes : new.bytes ≡ extended old.bytes (concat (template_header job.template ∷ lines))
  pub last : BankSeen
  pub ports : new.ports ≡ all_ports last
  pub shows : ((event : EventValue) → In job.events event → IsNoUpset event) → ShowsSource job.source is_job.mapped.mapped.graph job.template job.events lines (bank_of run.ports old.ports) last
