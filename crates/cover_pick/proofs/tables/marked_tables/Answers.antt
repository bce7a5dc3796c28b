use Rattle.cover_pick.proofs.Lemmas.{arith, [], err_from_is_err_and, tables_from, tables_past, bits_more}
use Rattle.cover_pick.proofs.tables.marked_tables.Goals as goal

pub returns-in_err-add_marked-clause-err : goal.returns-in_err-add_marked-clause-err
returns-in_err-add_marked-clause-err c =
    let p = err_from_is_err_and c.from_residual.result c.from_residual.ensures.1 in
    rw (p.1, p.2) (bits_more c.in_err-add_marked.field-0.0
    (tables_past c.args.graph.now c.args.cuts.now c.args.marks.now c.loop-needed.made
    (tables_from c.args.graph.now c.args.cuts.now (record { luts = []; bits = 0 }) 0 c.args.marks.now) c.loop-needed.lit c.loop-needed.needed-index (omega arith) c.loop-needed.invariant.rest)
    c.in_err-add_marked.ensures.err)
