use Rattle.gen_case.proofs.Lemmas.{ℕ, List, ◌++◌, string_bytes, arith, ap, ◌∙◌, digit, digit_text, piece_added}
use Rattle.gen_case.proofs.changes.add_digits.Goals as goal

pub loop-place-preserved : goal.loop-place-preserved
loop-place-preserved c =
    piece_added (λ place. digit_text (digit c.args.value place)) 0 c.loop-place.place _ c.loop-place.place _ _ _ (omega arith) (omega arith) c.loop-place.invariant
    (c.in_ok-push_str.ensures.bytes ∙ ap (λ (t : List ℕ). string_bytes c.loop-place.text ++ t) c.digit_text.ensures)
