use Rattle.flow_label.proofs.Lemmas.{arith, sym, subst, proposed_net, next_are}
use Rattle.flow_label.proofs.Common.{IsNet, net_on, net_of, SiteValue, AreNext}
use Rattle.flow_label.proofs.trunks.link_up.Goals as goal

pub make-site-requires-clause-net : goal.make-site-requires-clause-net
make-site-requires-clause-net c =
    subst (λ u. IsNet (net_on c.args.graph.now c.args.labels.now c.args.n 2147483648 c.args.scratch.now.walk.readers c.args.scratch.now.trunks.top u)) (sym c.deref-2.ensures.value)
    (proposed_net c.args.graph.now c.args.labels.now c.args.n 2147483648 c.args.scratch.now.walk.readers c.args.scratch.now.walk.ends.items c.args.scratch.now.trunks.top c.args.scratch.now.trunks.until.items c.requires.proposed c.requires.node.1 (omega (arith, c.len-count.ensures.small)) c.requires.low
    c.requires.node c.len-count.ensures.normal c.requires.known c.requires.ground)

pub returns-clause-linked : goal.returns-clause-linked
returns-clause-linked c =
    let net : IsNet (net_of c.make-site.result) = subst (λ (s : SiteValue). IsNet (net_of s)) (sym c.make-site.ensures)
    (subst (λ u. IsNet (net_on c.args.graph.now c.args.labels.now c.args.n 2147483648 c.args.scratch.now.walk.readers c.args.scratch.now.trunks.top u)) (sym c.deref-2.ensures.value)
    (proposed_net c.args.graph.now c.args.labels.now c.args.n 2147483648 c.args.scratch.now.walk.readers c.args.scratch.now.walk.ends.items c.args.scratch.now.trunks.top c.args.scratch.now.trunks.until.items c.requires.proposed c.requires.node.1 (omega (arith, c.len-count.ensures.small)) c.requires.low
    c.requires.node c.len-count.ensures.normal c.requires.known c.requires.ground)) in
    let next : AreNext c.make-site.result.graph c.make-site.result.floor c.make-site.result.until c.linked_ends.new.nodes.items =
    next_are c.make-site.result c.link_ends.new.links.owners c.link_ends.new.links.starts.items c.linked_ends.new.nodes.items net c.in_ok-link_ends.ensures.linked c.in_ok-linked_ends.ensures in
    subst (λ u. AreNext c.args.graph.now c.args.scratch.now.trunks.top u c.linked_ends.new.nodes.items) c.deref-2.ensures.value
    (subst (λ (s : SiteValue). AreNext s.graph s.floor s.until c.linked_ends.new.nodes.items) c.make-site.ensures next)
