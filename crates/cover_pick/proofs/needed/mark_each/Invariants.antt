use Rattle.cover_pick.proofs.Common.{◌≡◌, drop, lits_of, mark_each}
use Rattle.cover_pick.proofs.needed.mark_each.Given as goal

abbrev pub invariant-loop-lit : goal.invariant-loop-lit
invariant-loop-lit l = mark_each l.marks (lits_of (drop l.lit-index l.lits)) ≡ mark_each l.initial.marks (lits_of l.lits)
