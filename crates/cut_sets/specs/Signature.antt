-- The signature of a list of leaves: a word of 64 bits that has bit (leaf mod 64) of each leaf.
use Rattle.std.specs.Prelude.{ℕ, ◌%◌, ◌^◌, List, [], ◌∷◌, bit_or}

-- the word with the bit of one leaf
abbrev pub leaf_bit : ℕ → ℕ
leaf_bit leaf = 2 ^ (leaf % 64)

-- the bits of all leaves
abbrev pub signature_of : List ℕ → ℕ
signature_of [] = 0
signature_of (leaf ∷ leaves) = bit_or (leaf_bit leaf) (signature_of leaves)
