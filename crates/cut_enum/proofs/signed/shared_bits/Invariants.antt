use Rattle.std.proofs.Common.{◌≡◌, ◌<◌, ℕ, get_or, bit_or}
use Rattle.cut_enum.proofs.signed.shared_bits.Given as goal

abbrev pub invariant-loop-word : goal.invariant-loop-word
invariant-loop-word l = (k : ℕ) → k < l.word-index → bit_or l.bits (get_or l.words k 0) ≡ get_or l.words k 0
