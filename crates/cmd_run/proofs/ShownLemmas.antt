-- The events of a script without upsets show the source circuit.
use Rattle.cmd_run.proofs.Common.{◌≡◌, ℕ, Bool, false, cond, List, [], ◌∷◌, length, map, filter, Ok, refl, sym, ap, ◌∙◌, subst, inl, inr, range_with_len, In, assigned, PortSeen, EventValue, Set, Cycle, Upset, Scrub, Image, TemplateValue, PackValue, IsConf, HasOneConf, IsTableCycle, IsOnlyTableCycle, SimValue, BankSeen, differs_at, write_of, differences, config_bit, SpecialiserValue, event_line, FitsShape, Source, shape_of, IsTunable, IsNoUpset, ShownSource, Shows, ShowsSet, ShowsCycle, ShowsScrub, ShowsImage, ShowAll, Stage, IsStep, AreSteps, none, more}
use Rattle.tl_io.specs.declared.Write.{Write}
use Rattle.run_text.specs.Lines.{set_line, scrub_line, image_line}
use Rattle.bit_fun.specs.Configuration.{IsConfiguration}
use Rattle.port_bank.specs.Send.{Sends, start, accepted, replaced, with_port, Plays}
use Rattle.spec_core.proofs.MarkLemmas.{xor-same}
use Rattle.cmd_run.proofs.KeptLemmas.{IsKept, same_config, of_tables, cycle_is, step_keeps}

-- where nothing passes a test, nothing is left
filter_none : {A : Type 0} (test : A → Bool) (xs : List A) → ((x : A) → test x ≡ false) → filter test xs ≡ []
filter_none test [] fails = refl
filter_none test (x ∷ xs) fails = ap (λ b. cond b (x ∷ filter test xs) (filter test xs)) (fails x) ∙ filter_none test xs fails

-- a configuration does not differ from itself
no_differences : (config : List Bool) → differences config config ≡ []
no_differences config = ap (map (write_of config)) (filter_none (differs_at config config) (range_with_len 0 (length config)) (λ a. xor-same (config_bit config a) (config_bit config a) refl))

-- no writes leave a bank as it is
none_sent : {width : ℕ} {config : List Bool} {writes : List Write} {old : BankSeen} {answers : List Bool} {left : List Write} {new : BankSeen} → Sends width config writes old answers left new → writes ≡ [] → (left ≡ []) × (new ≡ old)
none_sent start e = (e, refl)
none_sent (accepted {write = write} {left = left} sends called) e = let no : write ∷ left ≡ [] = (none_sent sends e).0 in absurd (cc)
none_sent (replaced {write = write} {left = left} sends called by) e = let no : write ∷ left ≡ [] = (none_sent sends e).0 in absurd (cc)

none_with_port : (ports : List PortSeen) → with_port ports [] ≡ []
none_with_port [] = refl
none_with_port (port ∷ ports) = refl

none_played : (config : List Bool) (old new : BankSeen) → Plays config [] old new (Ok tt) → new ≡ old
none_played config old new plays = (none_sent plays.sends (none_with_port old.serving)).1

-- what a stage shows
abbrev pub shown_of : Stage → ShownSource
shown_of stage = record { params = stage.machine.host.state.params; states = stage.machine.sim.states; bank = stage.bank }

same_shown : (new old : ShownSource) → new.params ≡ old.params → new.states ≡ old.states → new.bank ≡ old.bank → new ≡ old
same_shown new old params states bank =
    ap (λ (p : List Bool). let s : ShownSource = record { params = p; states = new.states; bank = new.bank } in s) params
    ∙ ap (λ (n : List Bool). let s : ShownSource = record { params = old.params; states = n; bank = new.bank } in s) states
    ∙ ap (λ (b : BankSeen). let s : ShownSource = record { params = old.params; states = old.states; bank = b } in s) bank

same_states : (new old : SimValue) → new ≡ old → new.states ≡ old.states
same_states new old same = ap (λ (s : SimValue). s.states) same

module _ (source : Source) (template : TemplateValue) (pack : PackValue) (tunable : IsTunable source template pack) (one : (given : List Bool) → length given ≡ length pack.params → HasOneConf pack given) where
  abbrev IsHere : Stage → Type 0
  IsHere stage = IsKept source template pack tunable stage

  -- a configuration of the machine's pack is the tables'
  config_is : (old : Stage) (params config : List Bool) → IsHere old → length params ≡ length pack.params → IsConf old.machine.host.pack params config → IsConfiguration tunable.graph template.luts params config
  config_is old params config kept len is = tunable.configurations.is params config len (subst (λ (p : PackValue). IsConf p params config) kept.pack_is is)

  -- and it is the machine's, where it is one under the machine's values
  is_config : (old : Stage) (p : PackValue) (config : List Bool) → IsHere old → p ≡ pack → IsConf p old.machine.host.state.params config → config ≡ old.machine.host.state.config
  is_config old p config kept same is =
      same_config source template pack tunable one old.machine.host.state.params config old.machine.host.state.config kept.params
      (subst (λ (q : PackValue). IsConf q old.machine.host.state.params config) same is) kept.right

  shows_set : (assigns : _) (old new : Stage) → IsHere old → IsHere new → IsStep (Set assigns) old new
      → ShowsSet source tunable.graph template (assigned old.machine.host.state.params assigns) (shown_of old) (event_line (Set assigns) new.machine) (shown_of new)
  shows_set assigns old new kept later step =
      let set = step.played.host.is in
      let to_is : set.to ≡ new.machine.host.state.config = is_config new old.machine.host.pack set.to later kept.pack_is set.after in
      record {
        from = set.from;
        before = config_is old old.machine.host.state.params set.from kept kept.params set.before;
        to = set.to;
        after = subst (λ (ps : List Bool). IsConfiguration tunable.graph template.luts ps set.to) set.params (config_is old new.machine.host.state.params set.to kept later.params set.after);
        line_is = ap set_line set.are;
        params = set.params;
        states = same_states new.machine.sim old.machine.sim step.played.clock;
        sent = subst (λ (c : List Bool). Plays c (differences set.from set.to) old.bank new.bank (Ok tt)) (sym to_is) (subst (λ (ws : List Write). Plays new.machine.host.state.config ws old.bank new.bank (Ok tt)) set.are step.sent);
      }

  shows_cycle : (values : List Bool) (old new : Stage) → FitsShape (shape_of source) (Cycle values) → IsHere old → IsStep (Cycle values) old new
      → ShowsCycle source tunable.graph template values (shown_of old) (event_line (Cycle values) new.machine) (shown_of new)
  shows_cycle values old new fits kept step = record {
    outputs = new.machine.sim.outputs;
    config = old.machine.host.state.config;
    is = tunable.configurations.is old.machine.host.state.params old.machine.host.state.config kept.params kept.right;
    is_play = of_tables source template pack tunable IsTableCycle values old new kept step.played.clock;
    plays = of_tables source template pack tunable IsOnlyTableCycle values old new kept step.played.one;
    cycle = cycle_is source template pack tunable values old new fits kept step;
    line_is = refl;
    params = ap (λ (h : SpecialiserValue). h.state.params) step.played.host.is;
    bank = step.sent;
  }

  shows_scrub : (old new : Stage) → IsHere old → IsStep Scrub old new → ShowsScrub source tunable.graph template (shown_of old) (event_line Scrub new.machine) (shown_of new)
  shows_scrub old new kept step =
      let scrub = step.played.host.is in
      let right_is : scrub.right ≡ old.machine.host.state.config = is_config old old.machine.host.pack scrub.right kept kept.pack_is scrub.conf in
      let nothing : new.machine.host.writes ≡ [] = scrub.are ∙ ap (differences old.machine.host.state.config) right_is ∙ no_differences old.machine.host.state.config in
      record {
        line_is = ap scrub_line nothing;
        same =
            same_shown (shown_of new) (shown_of old) scrub.params (same_states new.machine.sim old.machine.sim step.played.clock)
            (none_played new.machine.host.state.config old.bank new.bank (subst (λ (ws : List Write). Plays new.machine.host.state.config ws old.bank new.bank (Ok tt)) nothing step.sent));
      }

  shows_image : (old new : Stage) → IsHere old → IsStep Image old new → ShowsImage source tunable.graph template (shown_of old) (event_line Image new.machine) (shown_of new)
  shows_image old new kept step = record {
    config = old.machine.host.state.config;
    is = tunable.configurations.is old.machine.host.state.params old.machine.host.state.config kept.params kept.right;
    line_is = ap (λ (h : SpecialiserValue). image_line h.state.config) step.played.host.is;
    same = same_shown (shown_of new) (shown_of old) (ap (λ (h : SpecialiserValue). h.state.params) step.played.host.is) (same_states new.machine.sim old.machine.sim step.played.clock) step.sent;
  }

  shows : (event : EventValue) (old new : Stage) → IsNoUpset event → FitsShape (shape_of source) event → IsHere old → IsHere new → IsStep event old new
      → Shows source tunable.graph template event (shown_of old) (event_line event new.machine) (shown_of new)
  shows (Set assigns) old new calm fits kept later step = shows_set assigns old new kept later step
  shows (Cycle values) old new calm fits kept later step = shows_cycle values old new fits kept step
  shows (Upset address) old new calm fits kept later step = absurd calm
  shows Scrub old new calm fits kept later step = shows_scrub old new kept step
  shows Image old new calm fits kept later step = shows_image old new kept step

  -- all events of a script, from a stage on which no bit stands upset
  pub record AreShown (old : Stage) (events : List EventValue) (lines : List (List ℕ)) (new : Stage) : Type 0 where
    pub kept : IsHere new
    pub all : ShowAll source tunable.graph template (shown_of old) events lines (shown_of new)

  pub all_shown : {old new : Stage} {events : List EventValue} {lines : List (List ℕ)} → IsHere old → AreSteps old events lines new → ((e : EventValue) → In events e → IsNoUpset e)
      → ((e : EventValue) → In events e → FitsShape (shape_of source) e) → AreShown old events lines new
  all_shown kept none calm fits = record { kept = kept; all = none }
  all_shown {old} kept (more event line mid (step, line_is) rest) calm fits =
      let calm_here = calm event (inl refl) in
      let fits_here = fits event (inl refl) in
      let here = step_keeps source template pack tunable event old mid calm_here fits_here kept step in
      let later = all_shown here rest (λ e i. calm e (inr i)) (λ e i. fits e (inr i)) in
      record { kept = later.kept; all = more event line (shown_of mid) (subst (λ l. Shows source tunable.graph template event (shown_of old) l (shown_of mid)) (sym line_is) (shows event old mid calm_here fits_here kept here step)) later.all }
