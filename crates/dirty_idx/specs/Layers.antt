-- Words of 64 bits in layers: one word at the top, and below each word of a layer 64 of the next, the layers one after another in one list. The bits of the lowest layer are the marks, and each bit above says whether the word below it has a bit.
use Rattle.std.specs.Prelude.{◌≡◌, ℕ, zero, suc, ◌+◌, ◌-◌, ◌*◌, ◌/◌, ◌%◌, ◌^◌, ◌<◌, ◌≤◌, min, Bool, ◌==◌, List, length, map, slice_index}
use Rattle.std.specs.List.{range_with_len}
use Rattle.std.specs.Int.{bit_at}

-- the word at a place
abbrev pub word_at : List ℕ → ℕ → ℕ
word_at words at = slice_index words at

-- how many words the topmost layers have, where there are so many layers: where the layer below them begins
unfoldable pub upper_words : ℕ → ℕ
upper_words zero = 0
upper_words (suc layers) = 64 * upper_words layers + 1

-- Above the place `base` each bit says whether the word below it has a bit; what is said of the word at `skip` is left open. The word at 0 has none above it, so with `skip` 0 nothing is.
pub record AreTold (base skip : ℕ) (words : List ℕ) : Type 0 where
  pub each : (at b : ℕ) → at < base → b < 64 → (64 * at + 1 + b ≡ skip → ⊥) → bit_at (word_at words at) b ≡ min 1 (word_at words (64 * at + 1 + b))

-- the bit above a word, which says whether it has one
abbrev pub bit_above : List ℕ → ℕ → ℕ
bit_above words at = bit_at (word_at words ((at - 1) / 64)) ((at - 1) % 64)

-- the bit of the lowest layer that stands for a number
abbrev pub mark_bit : ℕ → List ℕ → ℕ → ℕ
mark_bit base words i = bit_at (word_at words (base + i / 64)) (i % 64)

-- the marks of the numbers below a size
abbrev pub marks_of : ℕ → ℕ → List ℕ → List Bool
marks_of size base words = map (λ i. mark_bit base words i == 1) (range_with_len 0 size)

-- the lowest layer has its words from `base` on, told of above it, and no bit from `size` on
pub record AreTiers (size depth base : ℕ) (words : List ℕ) : Type 0 where
  pub small : size ≤ 2 ^ 26
  pub above : base ≡ upper_words depth
  pub few : base ≤ 2 ^ 27
  pub count : length words ≡ base + size / 64 + 1
  pub fits : length words ≤ 64 * base + 1
  pub told : AreTold base 0 words
  pub outside : (i : ℕ) → size ≤ i → mark_bit base words i ≡ 0

-- a place in the lowest layer, whose words before it have no bit
pub record AreNoneBefore (base place : ℕ) (words : List ℕ) : Type 0 where
  pub lowest : base ≤ place
  pub within : place < length words
  pub none : (m : ℕ) → base ≤ m → m < place → word_at words m ≡ 0

-- and such a place is known
pub record AreKept (size depth base place : ℕ) (words : List ℕ) : Type 0 where
  pub tiers : AreTiers size depth base words
  pub before : AreNoneBefore base place words

-- what changes where the bit of one number is set to v
pub record IsPut (base i v : ℕ) (old new : List ℕ) : Type 0 where
  pub count : length new ≡ length old
  pub here : mark_bit base new i ≡ v
  pub others : (j : ℕ) → (j ≡ i → ⊥) → mark_bit base new j ≡ mark_bit base old j
  pub rest : (m : ℕ) → base ≤ m → (m ≡ base + i / 64 → ⊥) → word_at new m ≡ word_at old m
  pub told : AreTold base 0 new

-- what changes where the words above a place are told of it: only they do
pub record IsRetold (base : ℕ) (old new : List ℕ) : Type 0 where
  pub count : length new ≡ length old
  pub lowest : (at : ℕ) → base ≤ at → word_at new at ≡ word_at old at
  pub told : AreTold base 0 new

-- the words above a place are told of it, wherever the lowest layer begins, if this is so of the word there
abbrev pub Retells : Type 0 → ℕ → List ℕ → List ℕ → Type 0
Retells P at old new = (base : ℕ) → AreTold base at old → at ≤ 64 * base → P → IsRetold base old new

-- the first word of a layer that has a bit, by the number of layers above it
pub record IsFirstWord (layers at : ℕ) (words : List ℕ) : Type 0 where
  pub from : upper_words layers ≤ at
  pub to : at ≤ 64 * upper_words layers
  pub some : 0 < word_at words at
  pub before : (m : ℕ) → upper_words layers ≤ m → m < at → word_at words m ≡ 0

-- On the way up from a word: what is said of it may still be wrong, and only words above the lowest layer changed.
pub record IsClimbed (base at : ℕ) (old new : List ℕ) : Type 0 where
  pub count : length new ≡ length old
  pub lowest : (m : ℕ) → base ≤ m → word_at new m ≡ word_at old m
  pub told : AreTold base at new
  pub to : at ≤ 64 * base

-- the word has a bit
pub record IsSomeOnTheWay (base at : ℕ) (old new : List ℕ) : Type 0 where
  pub climbed : IsClimbed base at old new
  pub some : 0 < word_at new at

-- the word had a bit
pub record IsNoneOnTheWay (base at : ℕ) (old new : List ℕ) : Type 0 where
  pub climbed : IsClimbed base at old new
  pub said : 0 < at → bit_above new at ≡ 1
