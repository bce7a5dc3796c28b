use Rattle.flow_cert.proofs.Common.{sym, subst, List, ℕ, roots_of, label_at, AreLeastHeights, AreLabelClaims, AreNeeded, HasOneClaiming, IfOk}
use Rattle.depth_label.proofs.LabelLemmas.{labels_heights}
use Rattle.flow_cert.proofs.certifying.certify.Goals as goal

pub certify_by_flow-requires-clause-heights : goal.certify_by_flow-requires-clause-heights
certify_by_flow-requires-clause-heights c =
    subst (λ (ls : List ℕ). AreLeastHeights c.args.graph.now c.args.k (label_at ls)) (sym c.node_labels.ensures) (labels_heights c.args.graph.now c.args.table.now c.args.labels.now c.args.k c.len-count.ensures.normal c.requires.labels c.requires.rows)

pub returns-clause-claims : goal.returns-clause-claims
returns-clause-claims c = subst (λ (ls : List ℕ). IfOk c.certify_by_flow.result (λ cert. AreLabelClaims (label_at ls) cert)) c.node_labels.ensures c.certify_by_flow.ensures.claims

pub returns-clause-needed : goal.returns-clause-needed
returns-clause-needed c = subst (λ (ls : List ℕ). IfOk c.certify_by_flow.result (λ cert. AreNeeded c.args.graph.now (roots_of c.args.roots.now) (label_at ls) cert)) c.node_labels.ensures c.certify_by_flow.ensures.needed

pub returns-clause-once : goal.returns-clause-once
returns-clause-once c = subst (λ (ls : List ℕ). HasOneClaiming c.args.graph.now (roots_of c.args.roots.now) (label_at ls)) c.node_labels.ensures c.certify_by_flow.ensures.once
