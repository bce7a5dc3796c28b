-- A case that was made ready and played: what it adds up to, and what is told of it; and the laws of the walk of `gen`.
use Rattle.cmd_run.proofs.Common.{◌≡◌, ℕ, ◌+◌, List, [], ◌∷◌, ◌++◌, refl, sym, ap, ◌∙◌, subst, arith, concat, ShelfSeen, TemplateValue, EventValue, event_values, MachineValue, IsPlayed, IsBegun, IsBegunFrom, GenWords, Ready, template_header, least_mapped, machine_header, IsReadyFor, case_words, case_files, writes_of, output_of, tally_machine, Totals, then_one, passes_keep, first_line, last_line, gen_text, HasGen, gen_walk, scripted_of, HasLaws, scripted_or_not, scripted_refused_once}

-- one event more
pub total_more : {old mid : MachineValue} {events : List EventValue} {writes total : ℕ} (new : MachineValue) (event : EventValue) (all_writes all : ℕ) → Totals old events writes total mid → IsPlayed event mid new
    → all_writes ≡ writes + writes_of event new → all ≡ total + output_of event new → Totals old (events ++ event ∷ []) all_writes all new
total_more new event all_writes all totals played w t = record { shown = totals.shown ++ tt ∷ []; passes = then_one tally_machine event tt totals.passes (played, w, t) }

-- events leave the tables as they are
pub same_template : {old new : MachineValue} {events : List EventValue} {writes total : ℕ} → Totals old events writes total new → new.sim.template ≡ old.sim.template
same_template {old} totals =
    passes_keep tally_machine (λ event. Unit {0}) (λ tally. tally.machine.sim.template ≡ old.sim.template) (λ event from shown to any same is. is.0.template ∙ same) (λ event i. tt) refl totals.passes

module _ (words : GenWords) (ready : Ready) (is : IsReadyFor (case_files words) (case_words words.rule) ready) where
  -- a case that is ready is begun
  pub case_begun : (old : ShelfSeen) → IsBegunFrom (gen_walk words) old old
  case_begun old = record {
    given = tt;
    begun = λ files has. subst (λ fs. IsBegun (gen_walk words) fs) (sym has) (record { accepted = record { job = is.job; is = is.is_job }; settled = is.settled });
  }

  -- and what is so of its lines behind its events is so of a text that tells its totals
  module _ (end : MachineValue) (writes total : ℕ) (totals : Totals ready.machine (event_values ready.events.items) writes total end) (first last : List ℕ) (first_is : first ≡ first_line words) (last_is : last ≡ last_line writes total) where
    text_is : concat (first ∷ machine_header end ∷ last ∷ []) ≡ gen_text words is.job.template writes total
    text_is =
        ap (λ (line : List ℕ). concat (line ∷ machine_header end ∷ last ∷ [])) first_is
        ∙ ap (λ (t : TemplateValue). concat (first_line words ∷ template_header t ∷ last ∷ [])) (same_template totals ∙ is.start.template)
        ∙ ap (λ (line : List ℕ). concat (first_line words ∷ template_header is.job.template ∷ line ∷ [])) last_is

    pub case_told : (P : List ℕ → Type 0) → P (concat (first ∷ machine_header end ∷ last ∷ [])) → HasGen words P
    case_told P told = record {
      job = is.job;
      is_job = is.is_job;
      law = least_mapped (case_files words) (case_words words.rule).source is.job.source is.job.template is.settled.source is.is_job.mapped;
      machine = ready.machine;
      start = is.start;
      writes = writes;
      total = total;
      end = end;
      totals = subst (λ es. Totals ready.machine es writes total end) (sym is.events) totals;
      ends = subst P text_is told;
    }

-- The laws of the walk of `gen`: they are those of `run` over the generated texts.
pub gen_laws : (words : GenWords) → HasLaws (gen_walk words)
gen_laws words = record {
  not_both = λ files settled has f r refused. scripted_or_not files (scripted_of (case_words words.rule)) settled has.job.source has.job.template has.job.events f r has.is refused;
  one_refusal = λ files settled f e r s one other. scripted_refused_once files (scripted_of (case_words words.rule)) settled f e r s one other;
  shows = λ files old new done. tt;
}
