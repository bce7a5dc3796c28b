use Rattle.flow_label.proofs.Lemmas.{subst, raised}
use Rattle.flow_label.proofs.Common.{IsStretched}
use Rattle.flow_label.proofs.trunks.raise.Goals as goal

pub returns : goal.returns
returns c =
    rw c.in_ok-push.ensures.items
    (raised c.args.graph.now c.args.n c.args.trunks.now.floors.items c.args.trunks.now.until.items c.stretch.new.until.items c.args.trunks.now.nodes.items c.args.trunks.now.top c.args.floor c.requires.trunks c.requires.above c.requires.below c.requires.linked
    (subst (λ xs. IsStretched c.args.trunks.now.until.items c.stretch.new.until.items xs c.args.floor) c.deref.ensures.value c.stretch.ensures))
