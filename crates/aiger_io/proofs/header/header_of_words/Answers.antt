use Rattle.aiger_io.proofs.Lemmas.{◌≡◌, ℕ, List, true, map, drop, codes, Bor, Some, sym, ◌∙◌, ap, subst, bytes_decides, bytes_eq, Vec, option_map, not-false, drop_get, capped_numbers, header_by, words_capped, answer_is}
use Rattle.std.specs.Global.{Global}
use Rattle.aiger_io.proofs.header.header_of_words.Goals as goal

pub returns-in-None : goal.returns-in-None
returns-in-None c =
    let words : List (List ℕ) = map (λ (w : Bor (List ℕ)). w.now) c.args.words.now in
    let same : bytes_eq c.row_at-word.result.now (codes "aag") ≡ true = subst (λ w. bytes_eq c.row_at-word.result.now w ≡ true) c.as_slice.ensures (not-false _ (sym c.if-ne.ensures)) in
    words_capped words c.row_at-word.result.now (drop 1 words) (drop_get words 0 c.row_at-word.result.now c.row_at-word.ensures) ((bytes_decides c.row_at-word.result.now (codes "aag")).0 same)
    ∙ ap header_by (ap capped_numbers (sym c.rows_behind.ensures.rows) ∙ sym c.in_ok-numbers.ensures ∙ ap (option_map (λ (v : Vec ℕ Global). v.items)) c.in-None.is)

pub returns-in-Some : goal.returns-in-Some
returns-in-Some c =
    let words : List (List ℕ) = map (λ (w : Bor (List ℕ)). w.now) c.args.words.now in
    let same : bytes_eq c.row_at-word.result.now (codes "aag") ≡ true = subst (λ w. bytes_eq c.row_at-word.result.now w ≡ true) c.as_slice.ensures (not-false _ (sym c.if-ne.ensures)) in
    answer_is c.header_of_numbers.result _ (
    words_capped words c.row_at-word.result.now (drop 1 words) (drop_get words 0 c.row_at-word.result.now c.row_at-word.ensures) ((bytes_decides c.row_at-word.result.now (codes "aag")).0 same)
    ∙ ap header_by (ap capped_numbers (sym c.rows_behind.ensures.rows) ∙ sym c.in_ok-numbers.ensures ∙ ap (option_map (λ (v : Vec ℕ Global). v.items)) c.in-Some.is)
    ∙ ap (λ ns. header_by (Some ns)) (sym c.deref.ensures.value) ∙ sym c.header_of_numbers.ensures)
