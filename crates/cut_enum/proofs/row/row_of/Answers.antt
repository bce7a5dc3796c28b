use Rattle.cut_enum.proofs.Lemmas.{arith, err_from_is_err_and, unions_of, IsRow-node, limit_node, too_many_limit}
use Rattle.cut_enum.proofs.row.row_of.Goals as goal

pub returns-clause-ok : goal.returns-clause-ok
returns-clause-ok g c = IsRow-node c.args.graph.now c.args.k c.args.n c.node-pair.result c.args.table.now c.in_ok-row.row.items c.requires.normal (omega arith) c.requires.node c.node-pair.ensures.pair c.node-pair.ensures.normal c.requires.rows c.in_ok-row.ensures.ok

pub returns-in_err-row-clause-err : goal.returns-in_err-row-clause-err
returns-in_err-row-clause-err g c =
    let p = err_from_is_err_and c.from_residual.result c.from_residual.ensures.1 in
    rw (p.1, p.2) (too_many_limit c.args.graph.now c.args.k c.args.n (unions_of c.args.graph.now c.args.k c.args.table.now c.node-pair.result) c.in_err-row.field-0.0
    (limit_node c.args.graph.now c.args.k c.args.n c.node-pair.result c.args.table.now c.requires.normal (omega arith) c.requires.node c.node-pair.ensures.pair c.node-pair.ensures.normal c.requires.rows)
    c.in_err-row.ensures.too_many)
