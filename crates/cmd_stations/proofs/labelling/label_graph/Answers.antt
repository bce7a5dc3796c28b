use Rattle.cmd_stations.proofs.Common.{List, ℕ, sym, subst, label_at, AreLeastHeights}
use Rattle.cmd_stations.specs.Mapped as mapped
use Rattle.cmd_stations.proofs.labelling.label_graph.Goals as goal

pub returns-in_ok-labels-in-FewestLeaves-clause-labelled : goal.returns-in_ok-labels-in-FewestLeaves-clause-labelled
returns-in_ok-labels-in-FewestLeaves-clause-labelled c =
    mapped.AreLabelsBy.by_cuts c.in-FewestLeaves.is c.in_ok-table-in-FewestLeaves.table c.in_ok-labels-in-FewestLeaves.labels
    (record { rows_are = c.in_ok-table-in-FewestLeaves.ensures.ok; labels_are = c.in_ok-labels-in-FewestLeaves.ensures.ok }) c.into_node_labels.ensures

pub returns-in_ok-labels-in-FewestLeaves-clause-heights : goal.returns-in_ok-labels-in-FewestLeaves-clause-heights
returns-in_ok-labels-in-FewestLeaves-clause-heights c =
    subst (λ (l : List ℕ). AreLeastHeights c.args.graph.now c.args.k (label_at l)) (sym c.into_node_labels.ensures) (c.in_ok-labels-in-FewestLeaves.ensures.heights c.args.k c.in_ok-table-in-FewestLeaves.ensures.ok)

pub returns-in_ok-labels-in-LeastCost-clause-labelled : goal.returns-in_ok-labels-in-LeastCost-clause-labelled
returns-in_ok-labels-in-LeastCost-clause-labelled c =
    mapped.AreLabelsBy.by_flow c.in-LeastCost.is (subst (λ (l : List ℕ). AreLeastHeights c.args.graph.now c.args.k (label_at l)) (sym c.into_labels.ensures) c.in_ok-labels-in-LeastCost.ensures.heights)

pub returns-in_ok-labels-in-LeastCost-clause-heights : goal.returns-in_ok-labels-in-LeastCost-clause-heights
returns-in_ok-labels-in-LeastCost-clause-heights c =
    subst (λ (l : List ℕ). AreLeastHeights c.args.graph.now c.args.k (label_at l)) (sym c.into_labels.ensures) c.in_ok-labels-in-LeastCost.ensures.heights
