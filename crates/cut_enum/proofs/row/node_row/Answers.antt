use Rattle.cut_enum.proofs.Lemmas.{ℕ, List, ap, ◌/◌, ◌<◌, arith, row_at, front_apart_at}
use Rattle.cut_enum.proofs.row.node_row.Goals as goal

pub merged-requires-clause-x_apart : goal.merged-requires-clause-x_apart
merged-requires-clause-x_apart c =
    let y : c.args.pair.y.0 / 2 < c.args.n = c.requires.pair.below in
    let x : c.args.pair.x.0 / 2 < c.args.pair.y.0 / 2 = c.requires.pair.ordered in
    front_apart_at c.args.graph.now c.args.k c.args.n (c.args.pair.x.0 / 2) c.args.table.now (row_at c.rows.result.now (c.args.pair.x.0 / 2)) c.in_ok-xs.xs c.requires.normal c.requires.node c.requires.rows (omega arith) (ap (λ (t : List (List (List ℕ))). row_at t (c.args.pair.x.0 / 2)) c.rows.ensures) c.in_ok-xs.ensures

pub merged-requires-clause-y_apart : goal.merged-requires-clause-y_apart
merged-requires-clause-y_apart c =
    front_apart_at c.args.graph.now c.args.k c.args.n (c.args.pair.y.0 / 2) c.args.table.now (row_at c.rows-2.result.now (c.args.pair.y.0 / 2)) c.in_ok-ys.ys c.requires.normal c.requires.node c.requires.rows c.requires.pair.below (ap (λ (t : List (List (List ℕ))). row_at t (c.args.pair.y.0 / 2)) c.rows-2.ensures) c.in_ok-ys.ensures
