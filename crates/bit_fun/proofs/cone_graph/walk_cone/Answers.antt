use Rattle.bit_fun.proofs.Lemmas.{◌≡◌, ◌∙◌, ap, subst, sym, node_count, IsInner, successors, AreNodes, WalkValue, cone_edges, cone_order, cone_nodes, ends_inner}
use Rattle.bit_fun.proofs.cone_graph.walk_cone.Goals as goal

pub visit-requires-clause-nodes : goal.visit-requires-clause-nodes
visit-requires-clause-nodes c =
    let same : node_count c.args.graph.now ≡ c.clear.new.self.count = sym (ap (λ (w : WalkValue). w.count) c.clear.ensures ∙ c.requires.count) in
    subst (λ n. AreNodes (IsInner c.args.graph.now c.args.leaves.now) (successors {S = Unit {0}} (cone_edges c.args.graph.now c.args.leaves.now c.args.kept.now)) n) same
    (cone_nodes (Unit {0}) c.args.graph.now c.args.leaves.now c.args.kept.now c.is_end.ensures.normal)

pub visit-requires-clause-here : goal.visit-requires-clause-here
visit-requires-clause-here c = ends_inner c.args.graph.now c.args.leaves.now c.args.kept.now c.args.top c.requires.top (sym c.is_end.ensures.ends ∙ c.if-is_end.false)

pub returns-clause-order : goal.returns-clause-order
returns-clause-order c =
    cone_order c.args.graph.now c.args.leaves.now c.args.kept.now c.args.top c.clear.new.self c.visit.new.self c.in_ok-_end._end c.is_end.ensures.normal
    (ends_inner c.args.graph.now c.args.leaves.now c.args.kept.now c.args.top c.requires.top (sym c.is_end.ensures.ends ∙ c.if-is_end.false)) (sym c.is_end.ensures.ends ∙ c.if-is_end.false)
    (ap (λ (w : WalkValue). w.order) c.clear.ensures) c.in_ok-_end.ensures.ok
