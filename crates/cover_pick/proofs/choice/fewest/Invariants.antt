use Rattle.cover_pick.proofs.Common.{◌≡◌, ℕ, List, Option, None, drop, row_at, label_at, IsAt, fewest}
use Rattle.cover_pick.proofs.choice.fewest.Given as goal

abbrev pub invariant-loop-i : goal.invariant-loop-i
invariant-loop-i l = (o : Option (List ℕ)) × IsAt (label_at l.labels) (row_at l.rows l.n) l.best o × (fewest (label_at l.labels) l.r o (drop l.i (row_at l.rows l.n)) ≡ fewest (label_at l.labels) l.r None (row_at l.rows l.n))
