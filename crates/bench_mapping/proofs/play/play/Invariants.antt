use Rattle.std.proofs.Common.{◌≡◌}
use Rattle.bench_mapping.proofs.play.play.Given as goal

abbrev pub invariant-loop : goal.invariant-loop
invariant-loop l = record {
  bits : l.sim.template.bits ≡ l.initial.sim.template.bits;
  regular : l.sim.shape.regular ≡ l.initial.sim.shape.regular;
}
