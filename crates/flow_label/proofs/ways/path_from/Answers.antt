use Rattle.flow_label.proofs.Lemmas.{◌≡◌, ◌<◌, ◌≤◌, ◌∙◌, arith, sym, subst, length, net_of, owner_in, next_of, fan_in_below, way_start, way_push, on_below, next_above}
use Rattle.flow_label.proofs.ways.path_from.Goals as goal

pub loop-m-init : goal.loop-m-init
loop-m-init c = rw (c.in_ok-push.ensures.items, c.new-path.ensures.items)
    (way_start (net_of c.args.site.now) c.node-node.ensures.net c.requires.readers (owner_in c.args.site.now c.args.links.now.owners) c.requires.linked.chosen (length c.args.links.now.starts.items) c.requires.linked.routed.linked c.args.s c.requires.source c.requires.owned)

pub loop-m-smaller : goal.loop-m-smaller
loop-m-smaller c =
    let le : c.loop-m.m ≤ c.args.site.now.node = on_below (net_of c.args.site.now) c.node-node.ensures.net c.requires.readers (owner_in c.args.site.now c.args.links.now.owners) c.requires.linked.chosen (length c.args.links.now.starts.items) c.requires.linked.routed.linked c.loop-m.m c.loop-m.invariant.on in
    let ne : c.loop-m.m ≡ c.args.site.now.node → ⊥ = (λ e. c.loop-m-test.true (e ∙ sym c.node-node.ensures.is)) in
    let up : c.loop-m.m < next_of (net_of c.args.site.now) (owner_in c.args.site.now c.args.links.now.owners) c.loop-m.m =
    fan_in_below c.args.site.now.graph c.loop-m.m (next_of (net_of c.args.site.now) (owner_in c.args.site.now c.args.links.now.owners) c.loop-m.m) c.node-node.ensures.net.normal
    (next_above (net_of c.args.site.now) c.node-node.ensures.net c.requires.readers (owner_in c.args.site.now c.args.links.now.owners) c.requires.linked.chosen (length c.args.links.now.starts.items) c.requires.linked.routed.linked c.loop-m.m c.loop-m.invariant.on ne) in
    let q : c.loop-m.m < c.next-m.result = subst (λ x. c.loop-m.m < x) (sym c.next-m.ensures) up in
    omega arith

pub loop-m-preserved : goal.loop-m-preserved
loop-m-preserved c =
    rw (c.in_ok-push-2.ensures.items, c.next-m.ensures)
    (way_push (net_of c.args.site.now) c.node-node.ensures.net c.requires.readers (owner_in c.args.site.now c.args.links.now.owners) c.requires.linked.chosen (length c.args.links.now.starts.items) c.requires.linked.routed.linked c.args.s c.loop-m.m c.loop-m.path.items c.loop-m.invariant
    (λ e. c.loop-m-test.true (e ∙ sym c.node-node.ensures.is)))
