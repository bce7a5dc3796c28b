use Rattle.flow_label.proofs.Lemmas.{sym, subst, net_of, net_is, readers_on}
use Rattle.flow_label.proofs.Common.{IsNet, AreReaders, net_on, SiteValue}
use Rattle.flow_label.proofs.question.flow_above.Goals as goal

pub make-site-requires-clause-net : goal.make-site-requires-clause-net
make-site-requires-clause-net c =
    subst (λ u. IsNet (net_on c.args.graph.now c.args.labels.now c.args.n c.args.height c.args.scratch.now.walk.readers c.args.floor u)) (sym c.deref-2.ensures.value)
    (net_is c.args.graph.now c.args.labels.now c.args.n c.args.height c.args.scratch.now.walk.readers c.args.floor c.args.scratch.now.trunks.until.items c.requires.node c.requires.high c.len-count.ensures.normal c.requires.known c.requires.walked.readers c.requires.ground)

pub flow-requires-clause-readers : goal.flow-requires-clause-readers
flow-requires-clause-readers c =
    subst (λ (s : SiteValue). AreReaders (net_of s)) (sym c.make-site.ensures)
    (readers_on c.args.graph.now c.args.labels.now c.args.n c.args.height c.args.scratch.now.walk.readers c.args.floor c.deref-2.result.now c.requires.walked.readers)
