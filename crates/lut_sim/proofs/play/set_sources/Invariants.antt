use Rattle.lut_sim.proofs.Common.{◌≡◌, ◌+◌, drop, with_sources}
use Rattle.lut_sim.proofs.play.set_sources.Given as goal

abbrev pub invariant-loop-bit : goal.invariant-loop-bit
invariant-loop-bit l = record {
  place : l.n ≡ l.first + l.bit-index;
  same : with_sources l.values l.n (drop l.bit-index l.bits) ≡ with_sources l.initial.values l.first l.bits;
}
