use Rattle.cut_enum.proofs.Common.{◌≡◌, ◌<◌, ℕ, false, get_or, bit_and}
use Rattle.cut_enum.proofs.signed.is_one_clear.Given as goal

abbrev pub invariant-loop-word : goal.invariant-loop-word
invariant-loop-word l = record {
  none : l.clear ≡ false → (k : ℕ) → k < l.word-index → bit_and l.bits (get_or l.words k 0) ≡ 0 → ⊥;
  one : ((k : ℕ) → k < l.word-index → bit_and l.bits (get_or l.words k 0) ≡ 0 → ⊥) → l.clear ≡ false;
}
