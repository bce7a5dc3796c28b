use Rattle.depth_label.proofs.Common.{row_at, AreLabelledTo}
use Rattle.depth_label.proofs.labelling.labels.Given as goal

abbrev pub invariant-loop-n : goal.invariant-loop-n
invariant-loop-n l = AreLabelledTo l.graph (row_at l.table) l.n (record { labels = l.labels; best = l.best.items })
