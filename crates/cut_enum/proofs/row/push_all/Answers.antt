use Rattle.cut_enum.proofs.Common.{◌≡◌, ◌++◌, ◌∷◌, ◌<◌, ◌∙◌, List, ℕ, [], ap, sym, take, length, arith, append_assoc, get_or, row_at, get_or_read, slice_get-get_or, same_Some, take_more}
use Rattle.cut_enum.proofs.row.push_all.Goals as goal

pub loop-i-preserved : goal.loop-i-preserved
loop-i-preserved c =
    let l : c.loop-i.i < length (row_at c.args.rows.now c.args.m) = omega (arith, c.loop-i-test.true, c.count-i-end.ensures) in
    let is : get_or (row_at c.args.rows.now c.args.m) c.loop-i.i [] ≡ c.cut.result = same_Some (get_or (row_at c.args.rows.now c.args.m) c.loop-i.i []) c.cut.result (sym (slice_get-get_or (row_at c.args.rows.now c.args.m) c.loop-i.i [] l) ∙ c.cut.ensures) in
    c.in_ok-push.ensures.items ∙ (ap (λ (t : List (List ℕ)). t ++ c.cut.result ∷ []) c.loop-i.invariant ∙ (append_assoc c.args.cuts.now.items (take c.loop-i.i (row_at c.args.rows.now c.args.m)) (c.cut.result ∷ [])
    ∙ ap (λ (t : List (List ℕ)). c.args.cuts.now.items ++ t) (sym (take_more (row_at c.args.rows.now c.args.m) c.loop-i.i [] l ∙ ap (λ x. take c.loop-i.i (row_at c.args.rows.now c.args.m) ++ x ∷ []) is))))
