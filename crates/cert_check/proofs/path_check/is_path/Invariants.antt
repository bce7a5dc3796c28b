use Rattle.cert_check.proofs.Common.{ℕ, ◌+◌, ◌<◌, get_or, length, IsSource, Regular, IsFanIn}
use Rattle.cert_check.proofs.path_check.is_path.Given as goal

abbrev pub invariant-loop-i : goal.invariant-loop-i
invariant-loop-i l = record {
  some : 0 < length l.nodes;
  source : IsSource l.graph Regular (get_or l.nodes 0 0);
  edges : (j : ℕ) → j + 1 < l.i → IsFanIn l.graph (get_or l.nodes j 0) (get_or l.nodes (j + 1) 0);
}
