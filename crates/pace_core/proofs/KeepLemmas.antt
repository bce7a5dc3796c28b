-- What a pacer keeps, once parameters are asked for or the clock ticks.
use Rattle.pace_core.proofs.Common.{◌≡◌, ℕ, ◌+◌, ◌<◌, ◌≤◌, Bool, false, List, [], length, take, replicate, refl, sym, ap, ◌∙◌, subst, arith, length-map, Assign, Write, written, value_of, PackValue, IsConf, HasOneConf, inits_of, TemplateValue, Shape, IsTableCycle, IsOnlyTableCycle, SimValue, differences, length-assigned, BacklogValue, IsBehind, AreTurns, IsWithinAsk, IsWithinTick, PacerValue, waited, cycled, IsTicked, steps, waits, HasStalls, rules}
use Rattle.aig_core.specs.Roots.{lits_of}
use Rattle.spec_core.specs.Events.{IsSet}
use Rattle.spec_core.specs.Specialiser.{SpecialiserValue}
use Rattle.spec_core.specs.Touched.{IsWithinTouched}
use Rattle.pace_core.specs.Keeps.{Keeps}
use Rattle.pace_core.proofs.StallLemmas.{behind_nothing, has_stalls}
use Rattle.pace_core.proofs.DifferenceLemmas.{no_differences}

-- a configuration has a bit for each of the pack's
pub conf_length : (pack : PackValue) (params bits : List Bool) → IsConf pack params bits → length bits ≡ length pack.bits
conf_length pack params bits conf = ap length conf.are ∙ length-map (lits_of pack.bits) (value_of conf.values) ∙ length-map pack.bits _

-- two configurations under the same values are one
conf_once : (pack : PackValue) (params bits others : List Bool) → HasOneConf pack params → IsConf pack params bits → IsConf pack params others → bits ≡ others
conf_once pack params bits others one a b = one.only bits a ∙ sym (one.only others b)

-- a pacer is made
pub made_keeps : (s : SpecialiserValue) (b : BacklogValue) (sim : SimValue) (rate luts depth : ℕ) (pack : PackValue) → s.pack ≡ pack → s.state.params ≡ inits_of pack.params → IsConf pack (inits_of pack.params) s.state.config
    → ((given : List Bool) → length given ≡ length pack.params → HasOneConf pack given) → b ≡ record { config = s.state.config; marks = replicate (length s.state.config) false; waiting = 0; writes = []; looks = 0 }
    → length pack.bits ≡ sim.template.bits → 1 ≤ rate → luts ≡ length sim.template.luts → depth ≡ sim.template.depth → Keeps s b sim rate luts depth
made_keeps s b sim rate luts depth pack is params conf one device bits takes luts_are depth_is = search (rules, length-map, behind_nothing)

module _ (s : SpecialiserValue) (b : BacklogValue) (sim : SimValue) (rate luts depth : ℕ) (keeps : Keeps s b sim rate luts depth) where
  -- no other configuration is asked for
  pub only_wanted : (wanted : List Bool) → IsConf s.pack s.state.params wanted → wanted ≡ s.state.config
  only_wanted wanted conf = conf_once s.pack s.state.params wanted s.state.config (keeps.one s.state.params keeps.params) conf keeps.right

  -- so many bits of the device differ from it
  pub waits_for : (wanted : List Bool) → IsConf s.pack s.state.params wanted → b.waiting ≡ length (differences b.config wanted)
  waits_for wanted conf = keeps.behind.waiting ∙ ap (λ (c : List Bool). length (differences b.config c)) (sym (only_wanted wanted conf))

  -- where none differs, it has it
  pub config_right : b.waiting ≡ 0 → IsConf s.pack s.state.params b.config
  config_right none = subst (IsConf s.pack s.state.params) (sym (no_differences b.config s.state.config keeps.behind.same (sym keeps.behind.waiting ∙ none))) keeps.right

  -- so many bits stall the circuit
  pub keeps_stalls : HasStalls (record { pack = s.pack; params = s.state.params; config = b.config; sim = sim; rate = rate; looks = s.reads + b.looks }) b.waiting
  keeps_stalls = has_stalls (record { pack = s.pack; params = s.state.params; config = b.config; sim = sim; rate = rate; looks = s.reads + b.looks }) s.state.config b.waiting keeps.takes only_wanted keeps.behind.same keeps.behind.waiting

  -- the clock ticks, and the device isn't behind
  pub tick_steps : (after : SimValue) (values : List Bool) → b.waiting ≡ 0 → IsTableCycle sim.template sim.shape b.config values sim.states after.outputs after.states → IsOnlyTableCycle sim.template sim.shape b.config values sim.states after.outputs after.states
      → after.template ≡ sim.template → after.shape ≡ sim.shape
      → IsTicked values (record { pack = s.pack; params = s.state.params; config = b.config; sim = sim; rate = rate; looks = s.reads + b.looks }) (record { pack = s.pack; params = s.state.params; config = b.config; sim = after; rate = rate; looks = s.reads + b.looks }) (cycled after.outputs after.states)
  tick_steps after values none cycle only template shape = grind (arith, config_right)

  -- it ticks, and the device is behind
  pub tick_waits : (config : List Bool) (writes : List Write) (looks : ℕ) (values : List Bool) → 0 < b.waiting → writes ≡ take rate (differences b.config s.state.config) → config ≡ written b.config (take rate (differences b.config s.state.config))
      → IsTicked values (record { pack = s.pack; params = s.state.params; config = b.config; sim = sim; rate = rate; looks = s.reads + b.looks }) (record { pack = s.pack; params = s.state.params; config = config; sim = sim; rate = rate; looks = looks }) (waited writes)
  tick_waits config writes looks values some are becomes = grind arith

  -- a tick looks at what it writes
  pub tick_within : (writes : List Write) (start end : ℕ) → writes ≡ take rate (differences b.config s.state.config) → end ≡ start + length writes
      → IsWithinTick (record { pack = s.pack; params = s.state.params; config = b.config; sim = sim; rate = rate; looks = s.reads + b.looks }) start end
  tick_within writes start end are cost = search rules

  -- at a cycle it looks at none
  pub cycle_within : (start : ℕ) → IsWithinTick (record { pack = s.pack; params = s.state.params; config = b.config; sim = sim; rate = rate; looks = s.reads + b.looks }) start start
  cycle_within start = record { wanted = s.state.config; conf = keeps.right; addresses = omega arith }

  -- Parameters get values.
  module _ (new : SpecialiserValue) (assigns : List Assign) (pack : new.pack ≡ s.pack) (set : IsSet s.pack assigns s.state new.writes new.state)
      (steady : IsConf s.pack s.state.params s.state.config → IsConf s.pack new.state.params new.state.config) where
    -- there are as many values as before
    as_many : length new.state.params ≡ length s.pack.params
    as_many = ap length set.params ∙ length-assigned assigns s.state.params ∙ keeps.params

    -- the one after is that of the new values
    to_is : set.to ≡ new.state.config
    to_is = conf_once s.pack new.state.params set.to new.state.config (keeps.one new.state.params as_many) set.after (steady keeps.right)

    -- both have as many bits
    same_lengths : length set.from ≡ length set.to
    same_lengths = conf_length s.pack s.state.params set.from set.before ∙ sym (conf_length s.pack new.state.params set.to set.after)

    -- what an ask looks at
    pub ask_within : (after : PacerValue) (start middle end : ℕ) → after.params ≡ new.state.params → IsWithinTouched s.pack.graph s.state.params new.state.params start middle → end ≡ middle + length new.writes
        → IsWithinAsk (record { pack = s.pack; params = s.state.params; config = b.config; sim = sim; rate = rate; looks = s.reads + b.looks }) after start end
    ask_within after start middle end params nodes cost = record {
      middle = middle;
      nodes = subst (λ (ps : List Bool). IsWithinTouched s.pack.graph s.state.params ps start middle) (sym params) nodes;
      from = set.from;
      before = set.before;
      to = set.to;
      after = subst (λ (ps : List Bool). IsConf s.pack ps set.to) (sym params) set.after;
      addresses = (let e : length new.writes ≡ length (differences set.from set.to) = ap (λ (ws : List Write). length ws) set.are in omega (arith, cost));
    }

    -- the device is behind the first of them
    behind_from : IsBehind b set.from
    behind_from = subst (IsBehind b) (sym (only_wanted set.from set.before)) keeps.behind

    -- the bits that change are those that turn
    pub writes_turn : AreTurns b new.writes
    writes_turn = record { from = set.from; behind = behind_from; to = set.to; same = same_lengths; are = set.are }

    -- the device is behind the new configuration
    pub asked_behind : (after : BacklogValue) → ((from to : List Bool) → IsBehind b from → new.writes ≡ differences from to → length from ≡ length to → IsBehind after to) → IsBehind after new.state.config
    asked_behind after turns = subst (IsBehind after) to_is (turns set.from set.to behind_from set.are same_lengths)

    -- and the pacer keeps what it must
    pub asked_keeps : (after : BacklogValue) → IsBehind after new.state.config → Keeps new after sim rate luts depth
    asked_keeps after behind = record {
      right = subst (λ (p : PackValue). IsConf p new.state.params new.state.config) (sym pack) (steady keeps.right);
      one = subst (λ (p : PackValue). (given : List Bool) → length given ≡ length p.params → HasOneConf p given) (sym pack) keeps.one;
      params = as_many ∙ ap (λ (p : PackValue). length p.params) (sym pack);
      behind = behind;
      bits = ap (λ (p : PackValue). length p.bits) pack ∙ keeps.bits;
      takes = keeps.takes;
      luts_are = keeps.luts_are;
      depth_is = keeps.depth_is;
    }
