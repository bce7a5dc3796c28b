use Rattle.blif_flat.proofs.Lemmas.{◌∙◌, ap, length, reverse, subst, WalkValue, Searched, sym, IsReady, refl, range_below, loop_of_roots, loop_of_others, order_of_roots}
use Rattle.blif_flat.proofs.field.loops.walk_covers.Goals as goal

pub find_loop-requires-clause-ready : goal.find_loop-requires-clause-ready
find_loop-requires-clause-ready c = subst (IsReady c.args.covers.now) (sym c.in_ok-walk.ensures) (record { count = refl; settled = tt; path = refl })

pub returns-in-Some : goal.returns-in-Some
returns-in-Some c = loop_of_roots c.args.covers.now c.args.roots.now c.in-Some.nodes.items
    (subst (Searched c.args.covers.now c.in_ok-walk.walk c.find_loop.new.walk c.args.roots.now) c.in-Some.is c.in_ok-nodes.ensures)

pub find_loop-requires-2-clause-here : goal.find_loop-requires-2-clause-here
find_loop-requires-2-clause-here c = range_below c.deref.result.now (length c.args.covers.now) (c.deref.ensures.value ∙ c.in_ok-all.ensures)

pub returns-in-Some-2 : goal.returns-in-Some-2
returns-in-Some-2 c = loop_of_others c.args.covers.now c.in_ok-walk.walk c.find_loop.new.walk c.args.roots.now c.deref.result.now (c.deref.ensures.value ∙ c.in_ok-all.ensures)
    (subst (Searched c.args.covers.now c.in_ok-walk.walk c.find_loop.new.walk c.args.roots.now) c.in_default.is c.in_ok-nodes.ensures) c.in-Some-2.nodes.items
    (subst (Searched c.args.covers.now c.find_loop.new.walk c.find_loop-2.new.walk c.deref.result.now) c.in-Some-2.is c.in_ok-nodes-2.ensures)

pub returns : goal.returns
returns c = order_of_roots c.args.covers.now c.in_ok-walk.walk c.find_loop.new.walk c.args.roots.now c.deref.result.now (c.deref.ensures.value ∙ c.in_ok-all.ensures)
    (subst (Searched c.args.covers.now c.in_ok-walk.walk c.find_loop.new.walk c.args.roots.now) c.in_default.is c.in_ok-nodes.ensures)
    c.find_loop-2.new.walk c.in_ok-order.order.items (ap (λ (w : WalkValue). w.order) c.in_ok-walk.ensures)
    (subst (Searched c.args.covers.now c.find_loop.new.walk c.find_loop-2.new.walk c.deref.result.now) c.in_default-2.is c.in_ok-nodes-2.ensures) (ap reverse c.in_ok-order.ensures.items ∙ c.order.ensures)
