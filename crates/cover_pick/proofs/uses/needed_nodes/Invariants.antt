use Rattle.cover_pick.proofs.Common.{◌≡◌, ◌<◌, ℕ, length, cut_at, has_cut, favoured_in}
use Rattle.cover_pick.proofs.uses.needed_nodes.Given as goal

abbrev pub invariant-loop-n : goal.invariant-loop-n
invariant-loop-n l = record {
  len : length l.needed.items ≡ l.n;
  each : (m : ℕ) → m < l.n → favoured_in l.needed.items m ≡ has_cut (cut_at l.cuts m);
}
