use Rattle.cover_pick.proofs.Common.{◌≡◌, ◌<◌, ◌+◌, ◌^◌, ℕ, drop, length, count_at, count_each, times_in}
use Rattle.cover_pick.proofs.uses.count_leaves.Given as goal

abbrev pub invariant-loop-m : goal.invariant-loop-m
invariant-loop-m l = record {
  rest : count_each l.counts (drop l.m-index l.leaves) ≡ count_each l.initial.counts l.leaves;
  size : length l.counts ≡ length l.initial.counts;
  room : (m : ℕ) → m < length l.initial.counts → count_at l.counts m + times_in m (drop l.m-index l.leaves) < 2 ^ 32;
}
