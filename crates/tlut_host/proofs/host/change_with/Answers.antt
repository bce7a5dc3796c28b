use Rattle.tlut_host.proofs.Common.{ℕ, subst, arith, IsWithinTouched}
use Rattle.tlut_host.proofs.host.change_with.Goals as goal

pub returns : goal.returns
returns c d = record {
  pack = d.change.ensures.pack;
  set = d.change.ensures.set;
  steps = d.change.new.steps;
  reads = omega (arith, d.change.ensures.counted, d.start-steps.ensures);
  cost = subst (λ (start : ℕ). IsWithinTouched d.args.specialiser.now.pack.graph d.args.specialiser.now.state.params d.change.new.self.state.params start d.change.new.steps) d.start-steps.ensures d.change.ensures.cost;
  steady = d.change.ensures.steady;
}
