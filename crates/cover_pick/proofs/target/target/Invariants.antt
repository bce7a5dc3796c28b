use Rattle.cover_pick.proofs.Common.{◌≡◌, max, drop, lits_of, greatest, label_at, root_level}
use Rattle.cover_pick.proofs.target.target.Given as goal

abbrev pub invariant-loop-root : goal.invariant-loop-root
invariant-loop-root l = max l.most (greatest (root_level l.graph (label_at l.labels)) (lits_of (drop l.root-index l.roots))) ≡ greatest (root_level l.graph (label_at l.labels)) (lits_of l.roots)
