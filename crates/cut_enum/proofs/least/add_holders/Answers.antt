use Rattle.cut_enum.proofs.Lemmas.{◌++◌, ℕ, List, sym, subst, err_from_is_err_and, In, In-get_or, add_holder, add_holders, too_many_more, holders_step}
use Rattle.cut_enum.proofs.least.add_holders.Goals as goal

pub returns-in_err-add_holder-clause-too_many : goal.returns-in_err-add_holder-clause-too_many
returns-in_err-add_holder-clause-too_many c =
    let p = err_from_is_err_and c.from_residual.result c.from_residual.ensures.1 in
    rw (p.1, p.2)
    (too_many_more c.args.node (c.args.smaller.now ++ add_holder c.args.size c.args.smaller.now c.args.parts.now c.cut-item.result c.loop-cut.level)
    (c.args.smaller.now ++ add_holders c.args.size c.args.smaller.now c.args.parts.now c.args.cuts.now c.args.level.now) c.in_err-add_holder.field-0.0
    (holders_step c.args.size c.args.smaller.now c.args.parts.now c.cut-item.result c.args.cuts.now c.loop-cut.level (add_holders c.args.size c.args.smaller.now c.args.parts.now c.args.cuts.now c.args.level.now) c.loop-cut.cut-index
    c.loop-cut-test.true c.cut-item.is c.loop-cut.invariant.rest)
    c.in_err-add_holder.ensures.too_many)

pub add_holder-requires-clause-clear : goal.add_holder-requires-clause-clear
add_holder-requires-clause-clear c =
    c.requires.clear c.cut-item.result (subst (λ (s : List ℕ). In c.args.cuts.now s) (sym c.cut-item.is) (In-get_or c.args.cuts.now c.loop-cut.cut-index c.cut-item.result c.loop-cut-test.true))
