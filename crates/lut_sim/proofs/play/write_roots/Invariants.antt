use Rattle.lut_sim.proofs.Common.{◌≡◌, drop, map, lits_of, value_in, filled}
use Rattle.lut_sim.proofs.play.write_roots.Given as goal

abbrev pub invariant-loop-root : goal.invariant-loop-root
invariant-loop-root l = record {
  place : l.i ≡ l.root-index;
  same : filled l.bits l.i (map (value_in l.values) (lits_of (drop l.root-index l.roots))) ≡ filled l.initial.bits 0 (map (value_in l.values) (lits_of l.roots));
}
