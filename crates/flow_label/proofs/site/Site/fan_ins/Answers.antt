use Rattle.flow_label.proofs.Common.{refl, rules, IsNode, first, second}
use Rattle.flow_label.proofs.site.Site.fan_ins.Goals as goal

pub returns-then-steps-clause-far : goal.returns-then-steps-clause-far
returns-then-steps-clause-far c = let is : IsNode c.args.self.now.graph c.pair_at-pair.result c.args.a = search rules in second c.pair_at-pair.result is refl

pub returns-then-steps-clause-near : goal.returns-then-steps-clause-near
returns-then-steps-clause-near c = let is : IsNode c.args.self.now.graph c.pair_at-pair.result c.args.a = search rules in first c.pair_at-pair.result is refl

pub returns-clause-far : goal.returns-clause-far
returns-clause-far c = let is : IsNode c.args.self.now.graph c.pair_at-pair.result c.args.a = search rules in first c.pair_at-pair.result is refl

pub returns-clause-near : goal.returns-clause-near
returns-clause-near c = let is : IsNode c.args.self.now.graph c.pair_at-pair.result c.args.a = search rules in second c.pair_at-pair.result is refl
