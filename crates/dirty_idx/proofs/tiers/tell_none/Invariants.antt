use Rattle.dirty_idx.proofs.Common.{◌≡◌, ℕ, ◌*◌, ◌<◌, ◌≤◌, vec_len, bit_above, AreTold, IsNoneOnTheWay}
use Rattle.dirty_idx.proofs.tiers.tell_none.Given as goal

abbrev pub invariant-loop-at : goal.invariant-loop-at
invariant-loop-at l = record {
  within : l.at < vec_len l.words;
  way : (base : ℕ) → AreTold base l.initial.at l.initial.words.items → l.initial.at ≤ 64 * base → (0 < l.initial.at → bit_above l.initial.words.items l.initial.at ≡ 1) → IsNoneOnTheWay base l.at l.initial.words.items l.words.items;
}

abbrev pub decreases-loop-at : goal.decreases-loop-at
decreases-loop-at l = l.at
