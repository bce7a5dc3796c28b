use Rattle.cut_enum.proofs.Lemmas.{◌++◌, ◌∙◌, ◌≡◌, ◌≤◌, ℕ, suc, List, length, ap, arith, err_from_is_err_and, unions_at, unions_below, merged, sizes_step, too_many_more}
use Rattle.cut_enum.proofs.least.merged.Goals as goal

pub returns-in_err-unions_of_size-clause-too_many : goal.returns-in_err-unions_of_size-clause-too_many
returns-in_err-unions_of_size-clause-too_many c =
    let p = err_from_is_err_and c.from_residual.result c.from_residual.ensures.1 in
    let below : c.all.result ≡ unions_below c.loop-size.size c.args.xs.now c.args.ys.now = c.all.ensures ∙ c.loop-size.invariant.below in
    let same : length (c.all.result ++ unions_at c.loop-size.size c.all.result c.args.xs.now c.args.ys.now) ≡ length (unions_below (suc c.loop-size.size) c.args.xs.now c.args.ys.now) =
    ap (λ (s : List (List ℕ)). length (s ++ unions_at c.loop-size.size s c.args.xs.now c.args.ys.now)) below in
    let step : length (unions_below (suc c.loop-size.size) c.args.xs.now c.args.ys.now) ≤ length (merged c.args.k c.args.xs.now c.args.ys.now) = sizes_step c.args.k c.args.xs.now c.args.ys.now c.loop-size.size (omega arith) in
    rw (p.1, p.2)
    (too_many_more c.args.node (c.all.result ++ unions_at c.loop-size.size c.all.result c.args.xs.now c.args.ys.now) (merged c.args.k c.args.xs.now c.args.ys.now) c.in_err-unions_of_size.field-0.0 (omega arith)
    c.in_err-unions_of_size.ensures.too_many)
