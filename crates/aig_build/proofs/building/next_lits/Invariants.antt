use Rattle.aig_build.proofs.Common.{◌≡◌, ◌++◌, drop, map, FlatLatch, net_lit}
use Rattle.aig_build.proofs.building.next_lits.Given as goal

abbrev pub invariant-loop-latch : goal.invariant-loop-latch
invariant-loop-latch l = l.lits.items ++ map (λ (latch : FlatLatch). net_lit l.nets latch.input) (drop l.latch-index l.latches) ≡ map (λ (latch : FlatLatch). net_lit l.nets latch.input) l.latches
