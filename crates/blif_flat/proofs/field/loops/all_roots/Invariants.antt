use Rattle.blif_flat.proofs.Common.{◌≡◌, ◌++◌, drop, cover_numbers, latch_nets}
use Rattle.blif_flat.proofs.field.loops.all_roots.Given as goal

abbrev pub invariant-loop-latch : goal.invariant-loop-latch
invariant-loop-latch l = l.roots.items ++ cover_numbers (latch_nets (drop l.latch-index l.latches)) ≡ l.initial.roots.items ++ cover_numbers (latch_nets l.latches)
