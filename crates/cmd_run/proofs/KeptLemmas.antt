-- What stays from one event of a script to the next while no bit stands upset: the pack and the LUTs, how many values and states there are, and that the configuration is the one specialised from scratch.
use Rattle.cmd_run.proofs.Common.{◌≡◌, ℕ, Bool, List, length, sym, ap, ◌∙◌, subst, same_Some, EventValue, Set, Cycle, Upset, Scrub, Image, Fits, TemplateValue, PackValue, IsConf, HasOneConf, IsTableCycle, IsOnlyTableCycle, Shape, SimValue, SpecialiserValue, IsRight, FitsShape, Source, names_of, shape_of, IsTunable, IsNoUpset, Stage, IsStep, cycle_count, param_count, IsSourceCycle}
use Rattle.spec_core.proofs.AssignLemmas.{length-assigned}

-- the cycles that a script may name fit the circuit's tables
pub shape_fits : (source : Source) (bits : ℕ) (event : EventValue) → Fits (names_of source bits) event → FitsShape (shape_of source) event
shape_fits source bits (Cycle values) fits = sym (same_Some (shape_of source).regular (length values) fits)
shape_fits source bits event fits = tt

module _ (source : Source) (template : TemplateValue) (pack : PackValue) (tunable : IsTunable source template pack) where
  -- a machine of the pack and the tables on which no bit stands upset
  pub record IsKept (stage : Stage) : Type 0 where
    pub pack_is : stage.machine.host.pack ≡ pack
    pub template_is : stage.machine.sim.template ≡ template
    pub shape_is : stage.machine.sim.shape ≡ shape_of source
    pub params : length stage.machine.host.state.params ≡ length pack.params
    pub states : length stage.machine.sim.states ≡ length source.netlist.flat.latches
    pub right : IsConf pack stage.machine.host.state.params stage.machine.host.state.config

  -- its configuration is the only one under its values
  pub same_config : (one : (given : List Bool) → length given ≡ length pack.params → HasOneConf pack given) (params a b : List Bool) → length params ≡ length pack.params → IsConf pack params a → IsConf pack params b → a ≡ b
  same_config one params a b len is other = let only = one params len in only.only a is ∙ sym (only.only b other)

  -- the machine's configuration as one of the pack, and back
  conf_in : (old : Stage) → IsKept old → IsRight old.machine.host
  conf_in old kept = subst (λ (p : PackValue). IsConf p old.machine.host.state.params old.machine.host.state.config) (sym kept.pack_is) kept.right

  conf_out : (new : Stage) → new.machine.host.pack ≡ pack → IsRight new.machine.host → IsConf pack new.machine.host.state.params new.machine.host.state.config
  conf_out new same right = subst (λ (p : PackValue). IsConf p new.machine.host.state.params new.machine.host.state.config) same right

  -- what a cycle is to the machine's tables under this configuration, it is to these
  pub of_tables : (IsPlayed : TemplateValue → Shape → List Bool → List Bool → List Bool → List Bool → List Bool → Type 0) (values : List Bool) (old new : Stage) → IsKept old
      → IsPlayed old.machine.sim.template old.machine.sim.shape old.machine.host.state.config values old.machine.sim.states new.machine.sim.outputs new.machine.sim.states
      → IsPlayed template (shape_of source) old.machine.host.state.config values old.machine.sim.states new.machine.sim.outputs new.machine.sim.states
  of_tables IsPlayed values old new kept played =
      let config = old.machine.host.state.config in
      let states = old.machine.sim.states in
      let outputs = new.machine.sim.outputs in
      let next = new.machine.sim.states in
      subst (λ (t : TemplateValue). IsPlayed t (shape_of source) config values states outputs next) kept.template_is
      (subst (λ (s : Shape). IsPlayed old.machine.sim.template s config values states outputs next) kept.shape_is played)

  -- and a cycle of theirs is the source circuit's
  pub cycle_is : (values : List Bool) (old new : Stage) → FitsShape (shape_of source) (Cycle values) → IsKept old → IsStep (Cycle values) old new
      → IsSourceCycle source old.machine.host.state.params values old.machine.sim.states new.machine.sim.outputs new.machine.sim.states
  cycle_is values old new fits kept step =
      (tunable.tables.refines old.machine.host.state.params old.machine.host.state.config (kept.params ∙ param_count source template pack tunable) kept.right).cycles
      values old.machine.sim.states new.machine.sim.outputs new.machine.sim.states (record { inputs = fits; states = kept.states; is = of_tables IsTableCycle values old new kept step.played.clock; only = of_tables IsOnlyTableCycle values old new kept step.played.one })

  -- what does not depend on the event
  with_rest : (event : EventValue) (old new : Stage) → IsKept old → IsStep event old new → length new.machine.host.state.params ≡ length old.machine.host.state.params → length new.machine.sim.states ≡ length old.machine.sim.states
      → IsRight new.machine.host → IsKept new
  with_rest event old new kept step params states right = record {
    pack_is = step.played.host.pack ∙ kept.pack_is;
    template_is = step.played.template ∙ kept.template_is;
    shape_is = step.played.shape ∙ kept.shape_is;
    params = params ∙ kept.params;
    states = states ∙ kept.states;
    right = conf_out new (step.played.host.pack ∙ kept.pack_is) right;
  }

  same_states : (new old : SimValue) → new ≡ old → length new.states ≡ length old.states
  same_states new old same = ap (λ (s : SimValue). length s.states) same

  same_params : (new old : SpecialiserValue) → new ≡ old → length new.state.params ≡ length old.state.params
  same_params new old same = ap (λ (h : SpecialiserValue). length h.state.params) same

  pub step_keeps : (event : EventValue) (old new : Stage) → IsNoUpset event → FitsShape (shape_of source) event → IsKept old → IsStep event old new → IsKept new
  step_keeps (Set assigns) old new calm fits kept step =
      with_rest (Set assigns) old new kept step (ap length step.played.host.is.params ∙ length-assigned assigns old.machine.host.state.params) (same_states new.machine.sim old.machine.sim step.played.clock)
      (step.steady (conf_in old kept))
  step_keeps (Cycle values) old new calm fits kept step =
      let cycle = cycle_is values old new fits kept step in
      with_rest (Cycle values) old new kept step (same_params new.machine.host old.machine.host step.played.host.is)
      (cycle_count source.netlist.library cycle.x old.machine.sim.states new.machine.sim.outputs new.machine.sim.states cycle.cycle) (step.steady (conf_in old kept))
  step_keeps (Upset address) old new calm fits kept step = absurd calm
  step_keeps Scrub old new calm fits kept step = with_rest Scrub old new kept step (ap length step.played.host.is.params) (same_states new.machine.sim old.machine.sim step.played.clock) step.steady
  step_keeps Image old new calm fits kept step =
      with_rest Image old new kept step (same_params new.machine.host old.machine.host step.played.host.is) (same_states new.machine.sim old.machine.sim step.played.clock) (step.steady (conf_in old kept))
