-- Asks and ticks show the source circuit.
use Rattle.cmd_pace.proofs.Common.{◌≡◌, ℕ, Bool, List, [], ◌∷◌, length, map, take, refl, sym, ap, ◌∙◌, subst, inl, inr, arith, length-take, In, TemplateValue, Shape, PackValue, IsConf, differences, length-assigned, PaceValue, Ask, Tick, PacerValue, Shown, shown_line, IsAsked, IsStep, IsWait, IsTicked, steps, waits, IsPaced, ArePaced, Source, width_of, shape_of, IsTunable, cycle_count, param_count, PaceStage, stage_of, ShowsAsk, ShowsStep, ShowsWait, ShowsTick, Shows, ShowAll, shown_pace_machine, pacer_machine, passes_over, IsSourceCycle}
use Rattle.tl_io.specs.Assigns.{assigned}
use Rattle.tl_io.specs.Writes.{written}
use Rattle.tl_io.specs.declared.Assign.{Assign}
use Rattle.lut_sim.specs.Cycle.{IsTableCycle, IsOnlyTableCycle}
use Rattle.bit_fun.specs.Configuration.{IsConfiguration}
use Rattle.run_text.specs.Lines.{wait_line}
use Rattle.pace_core.specs.EventValue as pace
use Rattle.cmd_pace.specs.Headline as headline
use Rattle.cmd_pace.proofs.SteadyLemmas.{IsSteady, paced_steady}

module _ (source : Source) (template : TemplateValue) (rate : ℕ) (pack : PackValue) (tunable : IsTunable source template pack) where
  -- a machine of the pack and the tables
  pub record IsKept (p : PacerValue) : Type 0 where
    pub steady : IsSteady pack rate p
    pub template_is : p.sim.template ≡ template
    pub shape_is : p.sim.shape ≡ shape_of source
    pub states : length p.sim.states ≡ length source.netlist.flat.latches

  -- a configuration of its pack is the tables'
  config_is : (p : PacerValue) (params config : List Bool) → IsKept p → length params ≡ length pack.params → IsConf p.pack params config → IsConfiguration tunable.graph template.luts params config
  config_is p params config kept len is = tunable.configurations.is params config len (subst (λ (q : PackValue). IsConf q params config) kept.steady.pack_is is)

  shows_ask : (assigns : List Assign) (old new : PacerValue) (one : Shown) → IsKept old → IsAsked assigns old new one → ShowsAsk source tunable.graph template rate (assigned old.params assigns) (stage_of old) (shown_line one) (stage_of new)
  shows_ask assigns old new one kept is = record {
    wanted = is.wanted;
    is = config_is old (assigned old.params assigns) is.wanted kept (length-assigned assigns old.params ∙ kept.steady.params) is.conf;
    line_is = ap shown_line is.shows;
    becomes = ap stage_of is.becomes;
  }

  -- what holds of its tables holds of these
  of_tables : (Holds : TemplateValue → Shape → Type 0) (p : PacerValue) → IsKept p → Holds p.sim.template p.sim.shape → Holds template (shape_of source)
  of_tables Holds p kept holds = subst (λ (t : TemplateValue). Holds t (shape_of source)) kept.template_is (subst (λ (f : Shape). Holds p.sim.template f) kept.shape_is holds)

  -- the values that a step plays fit the tables, and no others do
  step_is : (values : List Bool) (old new : PacerValue) (one : Shown) → IsKept old → (s : IsStep values old new one) → IsTableCycle template (shape_of source) old.config values old.sim.states s.outputs s.states
  step_is values old new one kept s = of_tables (λ (t : TemplateValue) (f : Shape). IsTableCycle t f old.config values old.sim.states s.outputs s.states) old kept s.cycle

  step_plays : (values : List Bool) (old new : PacerValue) (one : Shown) → IsKept old → (s : IsStep values old new one) → IsOnlyTableCycle template (shape_of source) old.config values old.sim.states s.outputs s.states
  step_plays values old new one kept s = of_tables (λ (t : TemplateValue) (f : Shape). IsOnlyTableCycle t f old.config values old.sim.states s.outputs s.states) old kept s.only

  -- are the source circuit
  step_cycle : (values : List Bool) (old new : PacerValue) (one : Shown) → length values ≡ width_of source → IsKept old → (s : IsStep values old new one) → IsSourceCycle source old.params values old.sim.states s.outputs s.states
  step_cycle values old new one fits kept s =
      (tunable.tables.refines old.params old.config (kept.steady.params ∙ param_count source template pack tunable) (subst (λ (q : PackValue). IsConf q old.params old.config) kept.steady.pack_is s.right)).cycles
      values old.sim.states s.outputs s.states (record { inputs = fits; states = kept.states; is = step_is values old new one kept s; only = step_plays values old new one kept s })

  shows_step : (values : List Bool) (old new : PacerValue) (one : Shown) → length values ≡ width_of source → IsKept old → IsStep values old new one → ShowsStep source tunable.graph template rate values (stage_of old) (shown_line one) (stage_of new)
  shows_step values old new one fits kept s =
      subst (λ (p : PacerValue). ShowsStep source tunable.graph template rate values (stage_of old) (shown_line one) (stage_of p)) (sym s.becomes) (record {
        is = config_is old old.params old.config kept kept.steady.params s.right;
        outputs = s.outputs;
        is_play = step_is values old new one kept s;
        plays = step_plays values old new one kept s;
        cycle = step_cycle values old new one fits kept s;
        line_is = ap shown_line s.shows;
        becomes = refl;
      })

  shows_wait : (old new : PacerValue) (one : Shown) → IsKept old → IsWait old new one → ShowsWait source tunable.graph template rate (stage_of old) (shown_line one) (stage_of new)
  shows_wait old new one kept w =
      let differ = differences old.config w.wanted in
      let same : old.rate ≡ rate = kept.steady.rate_is in
      let taken : ℕ → PaceStage = λ n. record { params = old.params; config = written old.config (take n differ); states = old.sim.states } in
      record {
        wanted = w.wanted;
        is = config_is old old.params w.wanted kept kept.steady.params w.conf;
        behind = w.behind;
        line_is = ap shown_line w.shows ∙ ap (λ n. wait_line (take n differ)) same;
        few = let len = length-take rate differ in omega (arith, len);
        becomes = ap stage_of w.becomes ∙ ap taken same;
      }

  shows_tick : (values : List Bool) (old new : PacerValue) (one : Shown) → length values ≡ width_of source → IsKept old → IsTicked values old new one → ShowsTick source tunable.graph template rate values (stage_of old) (shown_line one) (stage_of new)
  shows_tick values old new one fits kept (steps s) = headline.ShowsTick.steps (shows_step values old new one fits kept s)
  shows_tick values old new one fits kept (waits w) = headline.ShowsTick.waits (shows_wait old new one kept w)

  shows : (event : PaceValue) (old new : PacerValue) (one : Shown) → pace.Fits (length source.params.list) (width_of source) event → IsKept old → IsPaced event old new one
      → Shows source tunable.graph template rate event (stage_of old) (shown_line one) (stage_of new)
  shows (Ask assigns) old new one fits kept is = shows_ask assigns old new one kept is
  shows (Tick values) old new one fits kept is = shows_tick values old new one fits kept is

  -- behind an event it is one of them
  ticked_kept : (values : List Bool) (old new : PacerValue) (one : Shown) → length values ≡ width_of source → IsKept old → IsSteady pack rate new → IsTicked values old new one → IsKept new
  ticked_kept values old new one fits kept steady (steps s) = record {
    steady = steady;
    template_is = ap (λ (p : PacerValue). p.sim.template) s.becomes ∙ kept.template_is;
    shape_is = ap (λ (p : PacerValue). p.sim.shape) s.becomes ∙ kept.shape_is;
    states =
        let cycle = step_cycle values old new one fits kept s in
        ap (λ (p : PacerValue). length p.sim.states) s.becomes ∙ cycle_count source.netlist.library cycle.x old.sim.states s.outputs s.states cycle.cycle ∙ kept.states;
  }
  ticked_kept values old new one fits kept steady (waits w) = record {
    steady = steady;
    template_is = ap (λ (p : PacerValue). p.sim.template) w.becomes ∙ kept.template_is;
    shape_is = ap (λ (p : PacerValue). p.sim.shape) w.becomes ∙ kept.shape_is;
    states = ap (λ (p : PacerValue). length p.sim.states) w.becomes ∙ kept.states;
  }

  paced_kept : (event : PaceValue) (old new : PacerValue) (one : Shown) → pace.Fits (length source.params.list) (width_of source) event → IsKept old → IsPaced event old new one → IsKept new
  paced_kept (Ask assigns) old new one fits kept is = record {
    steady = paced_steady pack rate (Ask assigns) old new one kept.steady is;
    template_is = ap (λ (p : PacerValue). p.sim.template) is.becomes ∙ kept.template_is;
    shape_is = ap (λ (p : PacerValue). p.sim.shape) is.becomes ∙ kept.shape_is;
    states = ap (λ (p : PacerValue). length p.sim.states) is.becomes ∙ kept.states;
  }
  paced_kept (Tick values) old new one fits kept is = ticked_kept values old new one fits kept (paced_steady pack rate (Tick values) old new one kept.steady is) is

  -- all events of a script
  pub all_shown : {events : List PaceValue} {shown : List Shown} (old new : PacerValue) → IsKept old → ArePaced old events shown new
      → ((event : PaceValue) → In events event → pace.Fits (length source.params.list) (width_of source) event)
      → ShowAll source tunable.graph template rate (stage_of old) events (map shown_line shown) (stage_of new)
  all_shown old new kept are fits =
      passes_over pacer_machine (λ event. pace.Fits (length source.params.list) (width_of source) event) IsKept (λ event from one to here kept is. paced_kept event from to one here kept is)
      (shown_pace_machine source tunable.graph template rate) stage_of shown_line (λ event from one to here kept is. shows event from to one here kept is) fits kept are
