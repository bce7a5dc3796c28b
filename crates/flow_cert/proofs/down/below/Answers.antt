use Rattle.flow_cert.proofs.Common.{refl, label_at, first, second}
use Rattle.flow_cert.proofs.LabelLemmas.{second_live}
use Rattle.flow_cert.proofs.down.below.Goals as goal

pub returns-then-is_live-clause-fan_in : goal.returns-then-is_live-clause-fan_in
returns-then-is_live-clause-fan_in c = first c.pair_at-pair.result (record { above = c.requires.node.0; is = c.pair_at-pair.ensures.pair }) refl

pub returns-clause-fan_in : goal.returns-clause-fan_in
returns-clause-fan_in c = second c.pair_at-pair.result (record { above = c.requires.node.0; is = c.pair_at-pair.ensures.pair }) refl

pub returns-clause-live : goal.returns-clause-live
returns-clause-live c = second_live c.args.graph.now c.requires.least.0 (label_at c.args.labels.now) c.requires.least.1 c.len-count.ensures.normal c.args.v c.pair_at-pair.result (record { above = c.requires.node.0; is = c.pair_at-pair.ensures.pair }) c.requires.node c.requires.high (c.is_live.ensures.no c.if-is_live.false)
