use Rattle.aiger_io.proofs.Lemmas.{ℕ, ◌+◌, List, map, drop, Bor, sym, ◌∙◌, ap, capped_numbers, behind, number_next, number_stop, row_at}
use Rattle.aiger_io.proofs.header.numbers.Goals as goal

pub returns-in_default : goal.returns-in_default
returns-in_default c = sym (number_stop (map (λ (w : Bor (List ℕ)). w.now) c.args.words.now) c.loop-word.word-index _ c.loop-word.numbers.items
    (row_at c.args.words.now c.loop-word.word-index _ c.loop-word-test.true) (sym c.number.ensures ∙ c.in_default.is) c.loop-word.invariant)

pub loop-word-preserved : goal.loop-word-preserved
loop-word-preserved c =
    ap (λ l. behind l (capped_numbers (drop (c.loop-word.word-index + 1) (map (λ (w : Bor (List ℕ)). w.now) c.args.words.now)))) c.in_ok-push.ensures.items
    ∙ number_next (map (λ (w : Bor (List ℕ)). w.now) c.args.words.now) c.loop-word.word-index _ c.loop-word.numbers.items c.in-Some.number
    (row_at c.args.words.now c.loop-word.word-index _ c.loop-word-test.true) (sym c.number.ensures ∙ c.in-Some.is) c.loop-word.invariant
