use Rattle.flow_label.proofs.Lemmas.{arith, sym, subst, proposed_net}
use Rattle.flow_label.proofs.Common.{IsNet, net_on}
use Rattle.flow_label.proofs.trunks.look_ahead.Goals as goal

pub make-site-requires-clause-net : goal.make-site-requires-clause-net
make-site-requires-clause-net c =
    subst (λ u. IsNet (net_on c.args.graph.now c.args.labels.now c.args.n 2147483648 c.args.scratch.now.walk.readers c.args.scratch.now.trunks.top u)) (sym c.deref-2.ensures.value)
    (proposed_net c.args.graph.now c.args.labels.now c.args.n 2147483648 c.args.scratch.now.walk.readers c.args.scratch.now.walk.ends.items c.args.scratch.now.trunks.top c.args.scratch.now.trunks.until.items c.requires.proposed c.requires.node.1 (omega (arith, c.len-count.ensures.small)) c.requires.low
    c.requires.node c.len-count.ensures.normal c.requires.known c.requires.ground)
