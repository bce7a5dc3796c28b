use Rattle.cover_pick.proofs.Common.{◌≡◌, drop, mark_cuts}
use Rattle.cover_pick.proofs.needed.mark_cuts.Given as goal

abbrev pub invariant-loop-n : goal.invariant-loop-n
invariant-loop-n l = mark_cuts l.marks (drop l.n l.cuts) ≡ mark_cuts l.initial.marks l.cuts
