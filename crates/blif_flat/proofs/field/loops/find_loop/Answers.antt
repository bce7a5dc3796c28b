use Rattle.blif_flat.proofs.Lemmas.{Some, ◌∙◌, ap, subst, cover_edges, VisitedAll, cover_nodes, clear, not_stopped, closed}
use Rattle.blif_flat.proofs.field.loops.find_loop.Goals as goal

pub visit_all-requires-clause-nodes : goal.visit_all-requires-clause-nodes
visit_all-requires-clause-nodes c = cover_nodes c.args.covers.now c.requires.range c.args.walk.now.count c.requires.ready.count

pub unreachable-requires : goal.unreachable-requires
unreachable-requires c = not_stopped c.args.covers.now c.args.walk.now c.visit_all.new.self c.args.starts.now c.in-Some-Stop.field-0-0
    (subst (VisitedAll (cover_edges c.args.covers.now) c.args.walk.now c.visit_all.new.self c.args.starts.now) (c.in-Some-Stop.is ∙ ap Some c.in-Some-Stop.field-0-is) c.in_ok-visit_all.ensures.ok)

pub returns-in-None : goal.returns-in-None
returns-in-None c = clear c.args.covers.now c.args.walk.now c.visit_all.new.self c.args.starts.now (c.in_ok-visit_all.ensures.count ∙ c.requires.ready.count)
    (subst (VisitedAll (cover_edges c.args.covers.now) c.args.walk.now c.visit_all.new.self c.args.starts.now) c.in-None.is c.in_ok-visit_all.ensures.ok)

pub returns-in_ok-nodes-in-Some-Loop : goal.returns-in_ok-nodes-in-Some-Loop
returns-in_ok-nodes-in-Some-Loop c = closed c.args.covers.now c.args.walk.now c.visit_all.new.self c.args.starts.now c.in-Some-Loop.cover c.in_ok-nodes-in-Some-Loop.nodes.items
    (subst (VisitedAll (cover_edges c.args.covers.now) c.args.walk.now c.visit_all.new.self c.args.starts.now) (c.in-Some-Loop.is ∙ ap Some c.in-Some-Loop.field-0-is) c.in_ok-visit_all.ensures.ok) c.in_ok-nodes-in-Some-Loop.ensures
