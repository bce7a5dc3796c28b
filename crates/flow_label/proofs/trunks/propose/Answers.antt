use Rattle.flow_label.proofs.Lemmas.{sym, ◌∙◌, arith, label_at, proposed_more}
use Rattle.flow_label.proofs.trunks.propose.Goals as goal

pub returns-clause-proposed : goal.returns-clause-proposed
returns-clause-proposed c =
    rw (c.set.ensures, c.in_ok-push.ensures.items)
    (proposed_more c.args.graph.now (label_at c.args.labels.now) c.args.n c.args.walk.now.readers c.args.walk.now.ends.items c.args.m c.requires.proposed (omega (arith, c.if-m-n.false)) (c.is_live.ensures.yes c.if-not-is_live.false) (sym c.get.ensures ∙ c.if-get-ne0.false)
    (omega (arith, c.if-m-n.false, c.requires.node, c.requires.room)))
