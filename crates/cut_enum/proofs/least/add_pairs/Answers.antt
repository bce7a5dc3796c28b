use Rattle.cut_enum.proofs.Lemmas.{◌++◌, err_from_is_err_and, add_unions, add_pairs, too_many_more, pairs_step}
use Rattle.cut_enum.proofs.least.add_pairs.Goals as goal

pub returns-in_err-add_unions-clause-too_many : goal.returns-in_err-add_unions-clause-too_many
returns-in_err-add_unions-clause-too_many c =
    let p = err_from_is_err_and c.from_residual.result c.from_residual.ensures.1 in
    rw (p.1, p.2)
    (too_many_more c.args.node (c.args.smaller.now ++ add_unions c.args.size c.args.smaller.now c.c-item.result c.args.ds.now c.loop-c.level)
    (c.args.smaller.now ++ add_pairs c.args.size c.args.smaller.now c.args.cs.now c.args.ds.now c.args.level.now) c.in_err-add_unions.field-0.0
    (pairs_step c.args.size c.args.smaller.now c.c-item.result c.args.cs.now c.args.ds.now c.loop-c.level (add_pairs c.args.size c.args.smaller.now c.args.cs.now c.args.ds.now c.args.level.now) c.loop-c.c-index
    c.loop-c-test.true c.c-item.is c.loop-c.invariant.rest)
    c.in_err-add_unions.ensures.too_many)
