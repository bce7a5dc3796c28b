use Rattle.blif_flat.proofs.Common.{ap, length, subst, at_within, WalkValue, edges_at, Visited}
use Rattle.blif_flat.proofs.Models.ModelWalkLemmas.{graph_nodes, children_first, order_within, visit_walks, visit_faulty, visit_refuses}
use Rattle.blif_flat.proofs.model.walk.walk_slice.Goals as goal

pub visit-requires-clause-nodes : goal.visit-requires-clause-nodes
visit-requires-clause-nodes c = graph_nodes c.args.models.now.list.now c.requires.names c.in_ok-graph.graph.rows.items c.in_ok-graph.ensures c.in_ok-walk.walk.count (ap (λ (w : WalkValue). w.count) c.in_ok-walk.ensures)

pub unreachable-requires : goal.unreachable-requires
unreachable-requires c =
    let main = at_within c.args.models.now.list.now 0 c.requires.some in
    visit_faulty c.args.models.now.list.now c.requires.names (length c.args.models.now.list.now) c.in_ok-walk.walk c.visit.new.self c.in_ok-walk.ensures main.0 main.1 c.in-Some.field-0
    (subst (Visited _ c.in_ok-walk.walk c.visit.new.self 0) c.in-Some.is (subst (λ rows. Visited (edges_at rows) c.in_ok-walk.walk c.visit.new.self 0 c.in_ok-visit.field-0) c.in_ok-graph.ensures c.in_ok-visit.ensures.ok)) c.in-Ok.ensures.ok

pub returns-in-None-clause-ok : goal.returns-in-None-clause-ok
returns-in-None-clause-ok c main at =
    visit_walks c.args.models.now.list.now c.requires.names (length c.args.models.now.list.now) c.in_ok-walk.walk c.visit.new.self c.in_ok-walk.ensures main at
    (subst (Visited _ c.in_ok-walk.walk c.visit.new.self 0) c.in-None.is (subst (λ rows. Visited (edges_at rows) c.in_ok-walk.walk c.visit.new.self 0 c.in_ok-visit.field-0) c.in_ok-graph.ensures c.in_ok-visit.ensures.ok))

pub returns-in-None-clause-children : goal.returns-in-None-clause-children
returns-in-None-clause-children c =
    let d = subst (Visited _ c.in_ok-walk.walk c.visit.new.self 0) c.in-None.is (subst (λ rows. Visited (edges_at rows) c.in_ok-walk.walk c.visit.new.self 0 c.in_ok-visit.field-0) c.in_ok-graph.ensures c.in_ok-visit.ensures.ok) in
    children_first c.args.models.now.list.now c.requires.names c.visit.new.self.order d.settled
    (order_within c.args.models.now.list.now c.requires.names (length c.args.models.now.list.now) c.in_ok-walk.walk c.visit.new.self c.in_ok-walk.ensures d c.requires.some)

pub returns-in-Err-clause-err : goal.returns-in-Err-clause-err
returns-in-Err-clause-err c main at =
    visit_refuses c.args.models.now.list.now c.requires.names (length c.args.models.now.list.now) c.in_ok-walk.walk c.visit.new.self c.in_ok-walk.ensures main at c.in-Some.field-0 c.in-Err.error
    (subst (Visited _ c.in_ok-walk.walk c.visit.new.self 0) c.in-Some.is (subst (λ rows. Visited (edges_at rows) c.in_ok-walk.walk c.visit.new.self 0 c.in_ok-visit.field-0) c.in_ok-graph.ensures c.in_ok-visit.ensures.ok)) c.in-Err.ensures.err
