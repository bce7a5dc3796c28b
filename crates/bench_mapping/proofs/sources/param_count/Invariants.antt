use Rattle.bench_mapping.proofs.Common.{◌≡◌, ◌+◌, ◌≤◌, drop, param_count}
use Rattle.bench_mapping.proofs.sources.param_count.Given as goal

abbrev pub invariant-loop-i : goal.invariant-loop-i
invariant-loop-i l = record {
  rest : l.count + param_count (drop l.i l.graph.kinds) ≡ param_count l.graph.kinds;
  few : l.count ≤ l.i;
}
