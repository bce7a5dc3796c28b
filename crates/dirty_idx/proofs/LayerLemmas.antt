-- Bits of words, what the words above a word say of it once the bit above it is put right, and the first word of each layer that has a bit.
use Rattle.dirty_idx.proofs.Common.{◌≡◌, ℕ, ◌+◌, ◌-◌, ◌*◌, ◌/◌, ◌%◌, ◌^◌, ◌<◌, ◌≤◌, min, List, length, set, get_or, sym, ap, ◌∙◌, subst, inl, inr, arith, bit_and, bit_or, bit_at, bit_not, w64, length-set, get_or-set_same, get_or-set_other, get_or_read, cases_eq, bit_at-zero, bit_at_set_same, bit_at_set_other, bit_at_clear_same, bit_at_clear_other, shr_and_one, bit_above, IsClimbed, IsSomeOnTheWay, IsNoneOnTheWay, IsRetold, zero, suc, trailing_zeros, cases_lt, bit_at-trailing_zeros}
use Rattle.dirty_idx.specs.Layers.{word_at, upper_words, AreTold, IsFirstWord}

-- a word with a bit is not 0
pub some_bit : (w b : ℕ) → bit_at w b ≡ 1 → 0 < w
some_bit w b h = elim (cases_eq w 0) [
  | inl e ↦ (let z : bit_at 0 b ≡ 0 = bit_at-zero b in let s : bit_at w b ≡ bit_at 0 b = ap (λ m. bit_at m b) e in absurd (omega arith))
  | inr d ↦ omega arith
]

pub no_bit : (w b : ℕ) → w ≡ 0 → bit_at w b ≡ 0
no_bit w b e = ap (λ m. bit_at m b) e ∙ bit_at-zero b

-- the word above says it right
pub told_set : (base at up b w : ℕ) (words : List ℕ) → at ≡ 64 * up + 1 + b → b < 64 → up < length words → AreTold base at words
    → bit_at w b ≡ min 1 (word_at words at) → ((i : ℕ) → i < 64 → (i ≡ b → ⊥) → bit_at w i ≡ bit_at (word_at words up) i) → AreTold base up (set words up w)
told_set base at up b w words e lb lu told here others = record {
  each = λ a c la lc off.
      let child : word_at (set words up w) (64 * a + 1 + c) ≡ word_at words (64 * a + 1 + c) = get_or-set_other words up (64 * a + 1 + c) w 0 off in
      subst (λ n. bit_at (word_at (set words up w) a) c ≡ min 1 n) (sym child) (parent a c la lc);
}
  where
    parent : (a c : ℕ) → a < base → c < 64 → bit_at (word_at (set words up w) a) c ≡ min 1 (word_at words (64 * a + 1 + c))
    parent a c la lc = elim (cases_eq a up) [
      | inl q ↦ (let now : word_at (set words up w) a ≡ w = ap (λ m. word_at (set words up w) m) q ∙ get_or-set_same words up w 0 lu in
          elim (cases_eq c b) [
            | inl f ↦ (let p : at ≡ 64 * a + 1 + c = omega arith in ap (λ m. bit_at m c) now ∙ ap (λ m. bit_at w m) f ∙ here ∙ ap (λ m. min 1 (word_at words m)) p)
            | inr f ↦ ap (λ m. bit_at m c) now ∙ others c lc f ∙ ap (λ m. bit_at (word_at words m) c) (sym q) ∙ told.each a c la lc (λ p. f (omega arith))
          ])
      | inr q ↦ ap (λ m. bit_at m c) (get_or-set_other words up a w 0 q) ∙ told.each a c la lc (λ p. q (omega arith))
    ]

-- one word further up
pub climbed_up : (base at up b w : ℕ) (old new : List ℕ) → at ≡ 64 * up + 1 + b → b < 64 → up < length new → IsClimbed base at old new
    → bit_at w b ≡ min 1 (word_at new at) → ((i : ℕ) → i < 64 → (i ≡ b → ⊥) → bit_at w i ≡ bit_at (word_at new up) i) → IsClimbed base up old (set new up w)
climbed_up base at up b w old new e lb lu climbed here others =
    let to : at ≤ 64 * base = climbed.to in
    record {
      count = length-set new up w ∙ climbed.count;
      lowest = λ m l. get_or-set_other new up m w 0 (λ q. omega arith) ∙ climbed.lowest m l;
      told = told_set base at up b w new e lb lu climbed.told here others;
      to = omega arith;
    }

-- where the word has a bit
pub some_up : (base at x : ℕ) (old new : List ℕ) → 0 < at → (at - 1) / 64 < length new → x ≡ get_or new ((at - 1) / 64) x → IsSomeOnTheWay base at old new
    → IsSomeOnTheWay base ((at - 1) / 64) old (set new ((at - 1) / 64) (bit_or x (1 * 2 ^ ((at - 1) % 64) % 2 ^ 64)))
some_up base at x old new la lu read way =
    let up : ℕ = (at - 1) / 64 in
    let b : ℕ = (at - 1) % 64 in
    let w : ℕ = bit_or x (1 * 2 ^ b % 2 ^ 64) in
    let lb : (at - 1) % 64 < 64 = omega arith in
    let e : at ≡ 64 * ((at - 1) / 64) + 1 + (at - 1) % 64 = omega arith in
    let some : 0 < word_at new at = way.some in
    let here : bit_at w b ≡ 1 = bit_at_set_same w64 x b lb in
    let says : bit_at w b ≡ min 1 (word_at new at) = omega arith in
    record {
      climbed = climbed_up base at up b w old new e lb lu way.climbed says (λ i li d. bit_at_set_other w64 x b lb i d ∙ ap (λ m. bit_at m i) (get_or_read new up x lu read 0));
      some = subst (λ m. 0 < m) (sym (get_or-set_same new up w 0 lu)) (some_bit w b here);
    }

-- where it has none any more
pub none_up : (base at x : ℕ) (old new : List ℕ) → 0 < at → (at - 1) / 64 < length new → x ≡ get_or new ((at - 1) / 64) x → word_at new at ≡ 0 → IsNoneOnTheWay base at old new
    → IsNoneOnTheWay base ((at - 1) / 64) old (set new ((at - 1) / 64) (bit_and x (bit_not w64 (1 * 2 ^ ((at - 1) % 64) % 2 ^ 64))))
none_up base at x old new la lu read none way =
    let up : ℕ = (at - 1) / 64 in
    let b : ℕ = (at - 1) % 64 in
    let w : ℕ = bit_and x (bit_not w64 (1 * 2 ^ b % 2 ^ 64)) in
    let lb : (at - 1) % 64 < 64 = omega arith in
    let e : at ≡ 64 * ((at - 1) / 64) + 1 + (at - 1) % 64 = omega arith in
    let here : bit_at w b ≡ 0 = bit_at_clear_same w64 x b lb in
    let says : bit_at w b ≡ min 1 (word_at new at) = omega arith in
    record {
      climbed = climbed_up base at up b w old new e lb lu way.climbed says (λ i li d. bit_at_clear_other w64 x b lb i li d ∙ ap (λ m. bit_at m i) (get_or_read new up x lu read 0));
      said = said_above w;
    }
  where
    said_above : (w : ℕ) → 0 < (at - 1) / 64 → bit_above (set new ((at - 1) / 64) w) ((at - 1) / 64) ≡ 1
    said_above w lup =
        let up : ℕ = (at - 1) / 64 in
        let above : ℕ = ((at - 1) / 64 - 1) / 64 in
        let c : ℕ = ((at - 1) / 64 - 1) % 64 in
        let to : at ≤ 64 * base = way.climbed.to in
        let some : 0 < word_at new ((at - 1) / 64) = some_bit (word_at new ((at - 1) / 64)) ((at - 1) % 64) (way.said la) in
        let child : 64 * (((at - 1) / 64 - 1) / 64) + 1 + ((at - 1) / 64 - 1) % 64 ≡ (at - 1) / 64 = omega arith in
        let told : bit_at (word_at new above) c ≡ min 1 (word_at new up) = way.climbed.told.each above c (omega arith) (omega arith) (λ q. omega arith) ∙ ap (λ m. min 1 (word_at new m)) child in
        ap (λ m. bit_at m c) (get_or-set_other new up above w 0 (λ q. omega arith)) ∙ (let r : bit_at (word_at new above) c ≡ 1 = omega arith in r)

-- Once the bit above a word is put right, all are.
told_end : (base at : ℕ) (words : List ℕ) → AreTold base at words → (0 < at → bit_above words at ≡ min 1 (word_at words at)) → AreTold base 0 words
told_end base at words told above = record { each = λ a c la lc off. right a c la lc }
  where
    right : (a c : ℕ) → a < base → c < 64 → bit_at (word_at words a) c ≡ min 1 (word_at words (64 * a + 1 + c))
    right a c la lc = elim (cases_eq (64 * a + 1 + c) at) [
      | inl q ↦ (
          let up : (at - 1) / 64 ≡ a = omega arith in
          let bit : (at - 1) % 64 ≡ c = omega arith in
          let s : bit_at (word_at words ((at - 1) / 64)) ((at - 1) % 64) ≡ min 1 (word_at words at) = above (omega arith) in
          let t : bit_at (word_at words a) c ≡ min 1 (word_at words at) = subst (λ m. bit_at (word_at words m) c ≡ min 1 (word_at words at)) up (subst (λ m. bit_at (word_at words ((at - 1) / 64)) m ≡ min 1 (word_at words at)) bit s) in
          t ∙ ap (λ k. min 1 (word_at words k)) (sym q))
      | inr d ↦ told.each a c la lc d
    ]

-- a bit above that is not 0
pub said_above : (at x : ℕ) (words : List ℕ) → (at - 1) / 64 < length words → x ≡ get_or words ((at - 1) / 64) x → (bit_and (x / 2 ^ ((at - 1) % 64)) 1 ≡ 0 → ⊥) → bit_above words at ≡ 1
said_above at x words l read some =
    let e : bit_and (x / 2 ^ ((at - 1) % 64)) 1 ≡ bit_at (word_at words ((at - 1) / 64)) ((at - 1) % 64) = shr_and_one x ((at - 1) % 64) ∙ ap (λ m. bit_at m ((at - 1) % 64)) (get_or_read words ((at - 1) / 64) x l read 0) in
    elim (cases_eq (bit_at (word_at words ((at - 1) / 64)) ((at - 1) % 64)) 0) [ inl z ↦ absurd (some (e ∙ z)) | inr d ↦ (let one : bit_at (word_at words ((at - 1) / 64)) ((at - 1) % 64) ≡ 1 = omega arith in one) ]

-- The bit above says that a word has a bit, and it has one.
pub some_end : (base at : ℕ) (old new : List ℕ) → (0 < at → bit_above new at ≡ 1) → IsSomeOnTheWay base at old new → IsRetold base old new
some_end base at old new said way = record {
  count = way.climbed.count;
  lowest = way.climbed.lowest;
  told = told_end base at new way.climbed.told (λ l. let s : bit_above new at ≡ 1 = said l in let n : 0 < word_at new at = way.some in omega arith);
}

-- more layers have more words
pub upper_more : (k : ℕ) → upper_words (k + 1) ≡ 64 * upper_words k + 1
unfolding upper_words
upper_more k = let s : k + 1 ≡ suc k = omega arith in ap upper_words s

pub upper_le : (k d : ℕ) → k ≤ d → upper_words k ≤ upper_words d
upper_le k zero h = let e : k ≡ 0 = omega arith in subst (λ m. upper_words m ≤ upper_words 0) (sym e) (omega arith)
upper_le k (suc d) h = elim (cases_eq k (suc d)) [
  | inl e ↦ subst (λ m. upper_words m ≤ upper_words (suc d)) (sym e) (omega arith)
  | inr n ↦ (
      let s : d + 1 ≡ suc d = omega arith in
      let m : upper_words (suc d) ≡ 64 * upper_words d + 1 = ap upper_words (sym s) ∙ upper_more d in
      omega (arith, upper_le k d (omega arith)))
]

-- a word within a layer above the lowest is above the lowest
pub upper_within : (k d at : ℕ) → k < d → at ≤ 64 * upper_words k → at < upper_words d
upper_within k d at h l = omega (arith, upper_le (k + 1) d (omega arith), upper_more k)

-- the word at the top is the first of its layer
pub first_start : (words : List ℕ) → 0 < word_at words 0 → IsFirstWord 0 0 words
unfolding upper_words
first_start words some = record { from = omega arith; to = omega arith; some = some; before = λ m l h. absurd (omega arith) }

-- the first word of the next layer is below the lowest bit of the first word
pub first_down : (depth k at : ℕ) (words : List ℕ) → k < depth → AreTold (upper_words depth) 0 words → word_at words at < 2 ^ 64 → IsFirstWord k at words
    → IsFirstWord (k + 1) (64 * at + 1 + trailing_zeros w64 (word_at words at)) words
first_down depth k at words h told fits first = record {
  from = omega (arith, more, from);
  to = omega (arith, more, to, small);
  some = some_below;
  before = none_before;
}
  where
    b : ℕ
    b = trailing_zeros w64 (word_at words at)

    lowest : (trailing_zeros w64 (word_at words at) < 64) × (bit_at (word_at words at) (trailing_zeros w64 (word_at words at)) ≡ 1) × ((i : ℕ) → i < trailing_zeros w64 (word_at words at) → bit_at (word_at words at) i ≡ 0)
    lowest = bit_at-trailing_zeros w64 (word_at words at) first.some fits

    small : trailing_zeros w64 (word_at words at) < 64
    small = lowest.0

    more : upper_words (k + 1) ≡ 64 * upper_words k + 1
    more = upper_more k

    from : upper_words k ≤ at
    from = first.from

    to : at ≤ 64 * upper_words k
    to = first.to

    within : at < upper_words depth
    within = upper_within k depth at h first.to

    some_below : 0 < word_at words (64 * at + 1 + trailing_zeros w64 (word_at words at))
    some_below =
        let t : bit_at (word_at words at) (trailing_zeros w64 (word_at words at)) ≡ min 1 (word_at words (64 * at + 1 + trailing_zeros w64 (word_at words at))) = told.each at (trailing_zeros w64 (word_at words at)) within small (λ q. omega arith) in
        let o : bit_at (word_at words at) (trailing_zeros w64 (word_at words at)) ≡ 1 = lowest.1 in
        omega arith

    none_at : (a c m : ℕ) → a < upper_words depth → c < 64 → 64 * a + 1 + c ≡ m → bit_at (word_at words a) c ≡ 0 → word_at words m ≡ 0
    none_at a c m la lc e z =
        let t : bit_at (word_at words a) c ≡ min 1 (word_at words (64 * a + 1 + c)) = told.each a c la lc (λ q. omega arith) in
        let s : word_at words (64 * a + 1 + c) ≡ word_at words m = ap (λ n. word_at words n) e in
        omega arith

    none_before : (m : ℕ) → upper_words (k + 1) ≤ m → m < 64 * at + 1 + trailing_zeros w64 (word_at words at) → word_at words m ≡ 0
    none_before m l g = elim (cases_lt ((m - 1) / 64) at) [
      | inl j ↦ none_at ((m - 1) / 64) ((m - 1) % 64) m (omega (arith, within)) (omega arith) (omega (arith, more)) (no_bit (word_at words ((m - 1) / 64)) ((m - 1) % 64) (first.before ((m - 1) / 64) (omega (arith, more)) j))
      | inr j ↦ (
          let e : (m - 1) / 64 ≡ at = omega (arith, small, more) in
          let c : (m - 1) % 64 < trailing_zeros w64 (word_at words at) = omega (arith, small, more) in
          none_at at ((m - 1) % 64) m within (omega arith) (omega (arith, more, e)) (lowest.2 ((m - 1) % 64) c))
    ]

-- where the top has no bit, no word of the layers has one
climb : (base fuel m : ℕ) (words : List ℕ) → m ≤ fuel → AreTold base 0 words → m ≤ 64 * base → 0 < word_at words m → 0 < word_at words 0
climb base zero m words l told to some = let e : m ≡ 0 = omega arith in subst (λ n. 0 < word_at words n) e some
climb base (suc fuel) m words l told to some = elim (cases_eq m 0) [
  | inl e ↦ subst (λ n. 0 < word_at words n) e some
  | inr d ↦ (
      let child : 64 * ((m - 1) / 64) + 1 + (m - 1) % 64 ≡ m = omega arith in
      let t : bit_at (word_at words ((m - 1) / 64)) ((m - 1) % 64) ≡ min 1 (word_at words (64 * ((m - 1) / 64) + 1 + (m - 1) % 64)) = told.each ((m - 1) / 64) ((m - 1) % 64) (omega arith) (omega arith) (λ q. omega arith) in
      let s : word_at words (64 * ((m - 1) / 64) + 1 + (m - 1) % 64) ≡ word_at words m = ap (λ n. word_at words n) child in
      climb base fuel ((m - 1) / 64) words (omega arith) told (omega arith) (some_bit (word_at words ((m - 1) / 64)) ((m - 1) % 64) (omega arith)))
]

pub none_below : (base m : ℕ) (words : List ℕ) → AreTold base 0 words → m ≤ 64 * base → word_at words 0 ≡ 0 → word_at words m ≡ 0
none_below base m words told to none = elim (cases_eq (word_at words m) 0) [
  | inl e ↦ e
  | inr d ↦ (let top : 0 < word_at words 0 = climb base m m words (omega arith) told to (omega arith) in absurd (omega arith))
]
