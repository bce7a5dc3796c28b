-- What the fields of a cut and of lists of cuts keep.
use Rattle.std.specs.Prelude.{◌≡◌, ℕ, ◌+◌, ◌*◌, ◌<◌, ◌≤◌, List, [], length, map, bit_or, slice_index_or}
use Rattle.std.specs.Int.Bits.{bit_and}
use Rattle.cut_enum.specs.Words.{In, IsAscending, IsOrdered}
use Rattle.cut_sets.specs.declared.limits.TheConstants.{MOST_LEAVES}
use Rattle.cut_enum.specs.declared.limits.TheConstants.{GROUP}
use Rattle.cut_sets.specs.Signature.{signature_of}

-- the leaves ascend and lie in the inline places, and the signature is theirs
pub record IsCutLeaves (leaves : List ℕ) (capacity signature : ℕ) : Type 0 where
  pub ascending : IsAscending leaves
  pub few : length leaves ≤ MOST_LEAVES
  pub inline : capacity ≡ MOST_LEAVES
  pub signed : signature ≡ signature_of leaves

-- each of some words has one of these bits
abbrev pub NoneClear : ℕ → List ℕ → Type 0
NoneClear bits words = (i : ℕ) → i < length words → bit_and bits (slice_index_or words i 0) ≡ 0 → ⊥

-- each of some words has all of these bits
abbrev pub AllHave : ℕ → List ℕ → Type 0
AllHave bits words = (i : ℕ) → i < length words → bit_or bits (slice_index_or words i 0) ≡ slice_index_or words i 0

-- a number for each of the first groups of some words: each word of the group has all bits of it
pub record AreShared (words shared : List ℕ) : Type 0 where
  pub within : length shared * GROUP ≤ length words
  pub bits : (n i : ℕ) → n < length shared → i < GROUP → bit_or (slice_index_or shared n 0) (slice_index_or words (n * GROUP + i) 0) ≡ slice_index_or words (n * GROUP + i) 0

-- the words are the signatures of some cuts, and the first groups of them have numbers
pub record AreSigned (cuts : List (List ℕ)) (words shared : List ℕ) : Type 0 where
  pub signed : words ≡ map signature_of cuts
  pub grouped : AreShared words shared

-- some cuts by their places
abbrev pub listed : List (List ℕ) → List ℕ → List (List ℕ)
listed cuts places = map (λ i. slice_index_or cuts i []) places

-- the places of all cuts, in the order of the cuts
pub record AreListed (cuts : List (List ℕ)) (places : List ℕ) : Type 0 where
  pub ordered : IsOrdered (listed cuts places)
  pub within : (n : ℕ) → In places n → n < length cuts
  pub all : length cuts ≡ length places
