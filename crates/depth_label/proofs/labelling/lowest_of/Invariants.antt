use Rattle.depth_label.proofs.Common.{◌≡◌, ℕ, List, Option, None, drop, row_at, label_at, IsAt, lowest}
use Rattle.depth_label.proofs.labelling.lowest_of.Given as goal

abbrev pub invariant-loop-i : goal.invariant-loop-i
invariant-loop-i l = (o : Option (List ℕ)) × IsAt (label_at l.labels) (row_at l.table l.n) l.best o × (lowest (label_at l.labels) o (drop l.i (row_at l.table l.n)) ≡ lowest (label_at l.labels) None (row_at l.table l.n))
