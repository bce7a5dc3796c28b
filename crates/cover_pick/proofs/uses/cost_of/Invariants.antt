use Rattle.cover_pick.proofs.Common.{◌≡◌, ◌≤◌, ◌*◌, ◌^◌, cut_at, cost_below}
use Rattle.cover_pick.proofs.uses.cost_of.Given as goal

abbrev pub invariant-loop-n : goal.invariant-loop-n
invariant-loop-n l = record {
  cost : l.cost ≡ cost_below (cut_at l.cuts) l.n;
  small : l.cost ≤ l.n * 2 ^ 9;
}
