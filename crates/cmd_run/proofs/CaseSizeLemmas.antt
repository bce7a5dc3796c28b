-- A case that is ready is so small that what its events add up to fits its types.
use Rattle.cmd_run.proofs.Common.{◌≡◌, ℕ, ◌+◌, ◌^◌, ◌≤◌, true, false, leb, List, [], ◌∷◌, length, map, Option, Some, None, refl, sym, ap, ◌∙◌, subst, inl, inr, arith, cases_lt, le-leb, none-some, same_Some, slice_get-get_or, WordsLine, words_line, Denotes, Lit, bits_of, TemplateValue, EventValue, event_values, NamesValue, text_of, HasNetlist, GenWords, Ready, IsReadyFor, case_words, case_files, IsSmall, HasDigits, is_aag, DenotesLibrary, in_front, each_of}
use Rattle.gen_case.specs.Netlist.{netlist_lines}
use Rattle.std.specs.Option.{option_and_then}
use Rattle.list_laws.proofs.Choice.{none_both}
use Rattle.cover_pick.proofs.BitsLemmas.{bits_worked}
use Rattle.run_text.specs.ScriptText.{line_refusal, refusal_at, line_event, IsScript}
use Rattle.run_text.specs.declared.event.TheConstants.{MOST_EVENTS}
use Rattle.run_text.specs.declared.script_err.ScriptErr.TheVariants.{Events}
use Rattle.cmd_stations.proofs.LibraryTextLemmas.{blif_denotes}
use Rattle.cmd_run.proofs.CaseLemmas.{netlist_there}
use Rattle.cmd_run.proofs.CaseTextLemmas.{few_outputs}
use Rattle.cmd_run.proofs.StartLemmas.{start_bits}

-- A script has no more events than a text may have.
front_length : {B : Type 0} (o : Option B) (rest : Option (List B)) (ys : List B) (n : ℕ) → in_front o rest ≡ Some ys → ((zs : List B) → rest ≡ Some zs → length zs ≡ n) → length ys ≡ n + 1
front_length None rest ys n e h = absurd (none-some ys e)
front_length (Some y) None ys n e h = absurd (none-some ys e)
front_length (Some y) (Some zs) ys n e h =
    let all : length ys ≡ length (y ∷ zs) = ap length (sym (same_Some (y ∷ zs) ys e)) in
    omega (arith, all, h zs refl)

each_length : {A B : Type 0} (f : A → Option B) (xs : List A) (ys : List B) → each_of f xs ≡ Some ys → length ys ≡ length xs
each_length f [] ys e = ap length (sym (same_Some [] ys e))
each_length f (x ∷ xs) ys e = let all = front_length (f x) (each_of f xs) ys (length xs) e (each_length f xs) in omega (arith, all)

no_line_there : (names : NamesValue) (lines : List WordsLine) (i : ℕ) → MOST_EVENTS ≤ i → refusal_at names lines i ≡ None → length lines ≤ i
no_line_there names lines i past none = elim (cases_lt i (length lines)) [
  | inl here ↦ (
      let there = slice_get-get_or lines i (record { number = 0; words = [] }) here in
      let refused = none_both (leb MOST_EVENTS i) (Events _) _ (sym (ap (option_and_then (line_refusal names i)) there) ∙ none) in
      let yes : leb MOST_EVENTS i ≡ true = le-leb MOST_EVENTS i past in
      absurd (let wrong : ⊥ = cc (yes, refused.0) in wrong)
      )
  | inr beyond ↦ omega (arith, beyond)
]

events_few : (names : NamesValue) (text : List ℕ) (events : List EventValue) → IsScript names text events → length events ≤ 2 ^ 20
events_few names text events is =
    let lines : List WordsLine = map (words_line text) is.lines in
    let each : length events ≡ length lines = each_length (line_event names) lines events (is.are).are in
    let few : length lines ≤ 2 ^ 20 = no_line_there names lines (2 ^ 20) (omega arith) ((is.are).no_refusal (2 ^ 20)) in
    omega (arith, each, few)

-- a generated netlist begins with `.model`, and so is BLIF
generated_is_blif : (digits : ℕ) → is_aag (text_of (netlist_lines digits)) ≡ false
unfolding netlist_lines
generated_is_blif digits = refl

module _ (words : GenWords) (has : HasDigits words) (ready : Ready) (is : IsReadyFor (case_files words) (case_words words.rule) ready) where
  -- its template has at most two outputs a digit, and those of the full adder
  template_short : length (is.job).template.outputs ≤ 66
  template_short =
      let mapped = ((is.is_job).mapped).mapped in
      let netlist : HasNetlist (case_files words) (case_words words.rule).source ((is.job).source).netlist = (((is.is_job).mapped).has).netlist in
      let text : netlist.text ≡ text_of (netlist_lines words.digits) = same_Some netlist.text _ (sym (netlist.there).is ∙ netlist_there words) in
      let denotes : Denotes (text_of (netlist_lines words.digits)) (((is.job).source).netlist).library =
      blif_denotes (text_of (netlist_lines words.digits)) (((is.job).source).netlist).library (generated_is_blif words.digits) (subst (λ (t : List ℕ). DenotesLibrary t (((is.job).source).netlist).library) text (netlist.is).denotes) in
      let flat = few_outputs words.digits _ _ has.most denotes (netlist.is).flat in
      let chosen : length (is.job).template.outputs ≡ length (mapped.roots).outputs = ap (λ (ls : List Lit). length ls) ((mapped.chosen).chosen).outputs in
      let graph = (mapped.is_graph).outputs in
      omega (arith, flat, chosen, graph, has.most)

  -- and its bits are no more than the work of its tables
  template_light : bits_of (is.job).template.luts ≤ 2 ^ 25
  template_light =
      let light = ((((is.is_job).mapped).mapped).chosen).light in
      let work = bits_worked _ (is.job).template.luts light.work light.is in
      omega (arith, work, light.light)

  pub case_small : IsSmall (event_values ready.events.items) ready.machine
  case_small =
      let start = is.start in
      let script = (is.is_job).script in
      let events : length (is.job).events ≤ 2 ^ 20 = events_few _ script.text (is.job).events script.is in
      let bits : length ready.machine.host.pack.bits ≡ bits_of (is.job).template.luts = start_bits is.job ready.machine start in
      let outputs : length ready.machine.sim.template.outputs ≡ length (is.job).template.outputs = ap (λ (t : TemplateValue). length t.outputs) start.template in
      record {
        few = subst (λ (es : List EventValue). length es ≤ 2 ^ 20) is.events events;
        bits = omega (arith, bits, template_light);
        outputs = omega (arith, outputs, template_short);
      }
