use Rattle.depth_label.proofs.Common.{arith, ◌≡◌, ◌≤◌, ℕ, List, subst, sym, node_count, row_at, height, LabelsValue, label_at, AreLabelled, AreLabelledTo}
use Rattle.depth_label.proofs.LabelLemmas.{leaves_below, next_low, labels_push, labels_all, labels_heights, labels_least}
use Rattle.depth_label.proofs.OnceLemmas.{one_labelling}
use Rattle.depth_label.proofs.labelling.labels.Goals as goal

pub push-requires : goal.push-requires
push-requires c =
    let v : LabelsValue = record { labels = c.loop-n.labels; best = c.loop-n.best.items } in
    let low : height (label_at c.loop-n.labels) c.best_cut-cut.result.cut ≤ c.loop-n.n =
    next_low c.args.graph.now (row_at c.args.table.now) c.loop-n.n v c.best_cut-cut.result.cut (omega arith)
    (λ m and x i. leaves_below c.args.graph.now c.args.table.now m c.requires and x i) c.loop-n.invariant c.best_cut-cut.ensures.source c.best_cut-cut.ensures.node in
    omega (arith, c.best_cut-cut.ensures.height)

pub loop-n-preserved : goal.loop-n-preserved
loop-n-preserved c =
    let labels : List ℕ = c.loop-n.labels in
    let cut : List ℕ = c.best_cut-cut.result.cut in
    rw (c.in_ok-push.ensures.ok, c.in_ok-push-2.ensures.items, c.best_cut-cut.ensures.height)
    (labels_push c.args.graph.now (row_at c.args.table.now) c.loop-n.n labels c.loop-n.best.items cut (omega arith)
    (λ m and x i. leaves_below c.args.graph.now c.args.table.now m c.requires and x i) c.loop-n.invariant c.best_cut-cut.ensures.source c.best_cut-cut.ensures.node)

pub returns-clause-ok : goal.returns-clause-ok
returns-clause-ok c =
    let n : c.loop-n.n ≡ node_count c.args.graph.now = omega arith in
    let v : LabelsValue = record { labels = c.loop-n.labels; best = c.loop-n.best.items } in
    subst (λ r. AreLabelled c.args.graph.now c.args.table.now r) (sym c.make.ensures)
    (labels_all c.args.graph.now c.args.table.now v c.requires c.len-n-end.ensures.normal (subst (λ i. AreLabelledTo c.args.graph.now (row_at c.args.table.now) i v) n c.loop-n.invariant))

pub returns-clause-heights : goal.returns-clause-heights
returns-clause-heights c k are = labels_heights c.args.graph.now c.args.table.now c.make.result k c.len-n-end.ensures.normal (returns-clause-ok c) are

pub returns-clause-least : goal.returns-clause-least
returns-clause-least c k are = labels_least c.args.graph.now c.args.table.now c.make.result k c.len-n-end.ensures.normal (returns-clause-ok c) are

pub returns-in_err-push-clause-once : goal.returns-in_err-push-clause-once
returns-in_err-push-clause-once c = one_labelling c.args.graph.now c.args.table.now c.requires

pub returns-in_err-push-2-clause-once : goal.returns-in_err-push-2-clause-once
returns-in_err-push-2-clause-once c = one_labelling c.args.graph.now c.args.table.now c.requires

pub returns-clause-once : goal.returns-clause-once
returns-clause-once c = one_labelling c.args.graph.now c.args.table.now c.requires
