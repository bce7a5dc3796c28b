use Rattle.flow_label.proofs.Lemmas.{◌+◌, arith, label_at, known_below}
use Rattle.flow_label.proofs.trunks.extend.Goals as goal

pub look_ahead-requires-clause-known : goal.look_ahead-requires-clause-known
look_ahead-requires-clause-known c = known_below c.args.graph.now (c.args.scratch.now.trunks.top + 512 + 512 + 1) c.args.n (label_at c.args.labels.now) (omega (arith, c.if-scratch-n.false)) c.requires.known

pub link_up-requires-clause-known : goal.link_up-requires-clause-known
link_up-requires-clause-known c = known_below c.args.graph.now (c.args.scratch.now.trunks.top + 512 + 1) c.args.n (label_at c.args.labels.now) (omega (arith, c.if-scratch-n.false)) c.requires.known
