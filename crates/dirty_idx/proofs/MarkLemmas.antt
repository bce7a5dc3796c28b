-- The marks that the lowest words have, and what a bit put into them changes.
use Rattle.dirty_idx.proofs.Common.{◌≡◌, ℕ, ◌+◌, ◌-◌, ◌*◌, ◌/◌, ◌%◌, ◌^◌, ◌<◌, ◌≤◌, min, Bool, true, false, eqb, List, length, set, get_or, replicate, sym, ap, ◌∙◌, subst, inl, inr, arith, eq-eqb, eqb-true, bit_and, bit_or, bit_at, bit_not, trailing_zeros, w64, length-set, length-replicate, get_or-replicate, get_or-set_same, get_or-set_other, get_or_past, get_or_read, same_lists, length-map-range_with_len, get_or-map-range_with_len, cases_eq, cases_lt, bit_at-trailing_zeros, bit_at_set_same, bit_at_set_other, bit_at_clear_same, bit_at_clear_other, shr_and_one, is_marked, IsLeast, IsEmpty}
use Rattle.dirty_idx.specs.Layers.{word_at, upper_words, AreTold, bit_above, mark_bit, marks_of, AreTiers, AreNoneBefore, AreKept, IsPut, IsRetold, IsFirstWord}
use Rattle.dirty_idx.proofs.LayerLemmas.{some_bit, no_bit, none_below}
use Rattle.dirty_idx.proofs.CountLemmas.{zeros-at}

-- how many marks there are, and each of them
pub length-marks_of : (size base : ℕ) (words : List ℕ) → length (marks_of size base words) ≡ size
length-marks_of size base words = length-map-range_with_len (λ i. eqb (mark_bit base words i) 1) 0 size

pub marks_of-at : (size base i : ℕ) (words : List ℕ) (d : Bool) → i < size → get_or (marks_of size base words) i d ≡ eqb (mark_bit base words i) 1
marks_of-at size base i words d l = get_or-map-range_with_len (λ n. eqb (mark_bit base words n) 1) 0 size i i d l (omega arith)

pub marked-bit : (size base i : ℕ) (words : List ℕ) → i < size → is_marked (marks_of size base words) i ≡ eqb (mark_bit base words i) 1
marked-bit size base i words l = marks_of-at size base i words false l

-- a bit put is a mark set
pub marks_put : (size base i v : ℕ) (old new : List ℕ) → i < size → IsPut base i v old new → marks_of size base new ≡ set (marks_of size base old) i (eqb v 1)
marks_put size base i v old new l put =
    same_lists (marks_of size base new) (set (marks_of size base old) i (eqb v 1))
    (length-marks_of size base new ∙ sym (length-set (marks_of size base old) i (eqb v 1) ∙ length-marks_of size base old))
    (λ k d h. each k d (subst (λ n. k < n) (length-marks_of size base new) h))
  where
    each : (k : ℕ) (d : Bool) → k < size → get_or (marks_of size base new) k d ≡ get_or (set (marks_of size base old) i (eqb v 1)) k d
    each k d h = elim (cases_eq k i) [
      | inl e ↦ marks_of-at size base k new d h ∙ ap (λ n. eqb (mark_bit base new n) 1) e ∙ ap (λ b. eqb b 1) put.here
          ∙ sym (ap (λ n. get_or (set (marks_of size base old) i (eqb v 1)) n d) e ∙ get_or-set_same (marks_of size base old) i (eqb v 1) d (subst (λ n. i < n) (sym (length-marks_of size base old)) l))
      | inr n ↦ marks_of-at size base k new d h ∙ ap (λ b. eqb b 1) (put.others k n) ∙ sym (get_or-set_other (marks_of size base old) i k (eqb v 1) d n ∙ marks_of-at size base k old d h)
    ]

-- and the words keep what they keep
pub tiers_put : (size depth base i v : ℕ) (old new : List ℕ) → i < size → AreTiers size depth base old → IsPut base i v old new → AreTiers size depth base new
tiers_put size depth base i v old new l tiers put =
    let count : length new ≡ length old = put.count in
    let had : length old ≡ base + size / 64 + 1 = tiers.count in
    let fitted : length old ≤ 64 * base + 1 = tiers.fits in
    record {
      small = tiers.small;
      above = tiers.above;
      few = tiers.few;
      count = omega arith;
      fits = omega arith;
      told = put.told;
      outside = λ j h. put.others j (λ e. omega arith) ∙ tiers.outside j h;
    }

-- no word before a place has a bit, where it had none and the bit is not before that place
pub none_put : (base place to i v : ℕ) (old new : List ℕ) → base ≤ to → to ≤ place → to ≤ base + i / 64 → AreNoneBefore base place old → IsPut base i v old new → AreNoneBefore base to new
none_put base place to i v old new lowest below within before put =
    let count : length new ≡ length old = put.count in
    let had : place < length old = before.within in
    record {
      lowest = lowest;
      within = omega arith;
      none = λ m l h. put.rest m l (λ e. omega arith) ∙ before.none m l (omega arith);
    }

-- a word that has a bit is not before the place
pub not_before : (base place at : ℕ) (words : List ℕ) → AreNoneBefore base place words → base ≤ at → 0 < word_at words at → place ≤ at
not_before base place at words before l some = elim (cases_lt at place) [
  | inl h ↦ (let z : word_at words at ≡ 0 = before.none at l h in absurd (omega arith))
  | inr g ↦ g
]

-- a word of the lowest layer says nothing of others
pub told_lowest : (base at w : ℕ) (words : List ℕ) → base ≤ at → AreTold base 0 words → AreTold base at (set words at w)
told_lowest base at w words l told = record {
  each = λ a c la lc off.
      ap (λ m. bit_at m c) (get_or-set_other words at a w 0 (λ q. omega arith)) ∙ told.each a c la lc (λ q. omega arith)
      ∙ ap (λ m. min 1 m) (sym (get_or-set_other words at (64 * a + 1 + c) w 0 off));
}

-- one bit of such a word changed, and the words above told of it
pub put_is : (base i v w : ℕ) (old new : List ℕ) → base + i / 64 < length old → IsRetold base (set old (base + i / 64) w) new → bit_at w (i % 64) ≡ v
    → ((b : ℕ) → b < 64 → (b ≡ i % 64 → ⊥) → bit_at w b ≡ bit_at (word_at old (base + i / 64)) b) → IsPut base i v old new
put_is base i v w old new l told here others = record {
  count = told.count ∙ length-set old (base + i / 64) w;
  here = ap (λ m. bit_at m (i % 64)) changed ∙ here;
  others = λ j d. elim (cases_eq (base + j / 64) (base + i / 64)) [
    | inl e ↦ ap (λ m. bit_at m (j % 64)) (ap (λ n. word_at new n) e ∙ changed) ∙ others (j % 64) (omega arith) (λ q. d (omega arith)) ∙ ap (λ n. bit_at (word_at old n) (j % 64)) (sym e)
    | inr n ↦ ap (λ m. bit_at m (j % 64)) (told.lowest (base + j / 64) (omega arith) ∙ get_or-set_other old (base + i / 64) (base + j / 64) w 0 n)
  ];
  rest = λ m h d. told.lowest m h ∙ get_or-set_other old (base + i / 64) m w 0 d;
  told = told.told;
}
  where
    changed : word_at new (base + i / 64) ≡ w
    changed = told.lowest (base + i / 64) (omega arith) ∙ get_or-set_same old (base + i / 64) w 0 l

-- a bit set
pub set_is : (base i x : ℕ) (old new : List ℕ) → base + i / 64 < length old → length old ≤ 64 * base + 1 → AreTold base 0 old → x ≡ get_or old (base + i / 64) x
    → ((b : ℕ) → AreTold b (base + i / 64) (set old (base + i / 64) (bit_or x (1 * 2 ^ (i % 64) % 2 ^ 64))) → base + i / 64 ≤ 64 * b → 0 < word_at (set old (base + i / 64) (bit_or x (1 * 2 ^ (i % 64) % 2 ^ 64))) (base + i / 64) → IsRetold b (set old (base + i / 64) (bit_or x (1 * 2 ^ (i % 64) % 2 ^ 64))) new)
    → IsPut base i 1 old new
set_is base i x old new l fits told read tells =
    let at : ℕ = base + i / 64 in
    let w : ℕ = bit_or x (1 * 2 ^ (i % 64) % 2 ^ 64) in
    let lb : i % 64 < 64 = omega arith in
    let here : bit_at w (i % 64) ≡ 1 = bit_at_set_same w64 x (i % 64) lb in
    let some : 0 < word_at (set old at w) at = subst (λ m. 0 < m) (sym (get_or-set_same old at w 0 l)) (some_bit w (i % 64) here) in
    put_is base i 1 w old new l (tells base (told_lowest base at w old (omega arith) told) (omega arith) some) here
    (λ b h d. bit_at_set_other w64 x (i % 64) lb b d ∙ ap (λ m. bit_at m b) (get_or_read old at x l read 0))

-- a bit cleared, which was set
pub clear_is : (base i x : ℕ) (old new : List ℕ) → base + i / 64 < length old → length old ≤ 64 * base + 1 → AreTold base 0 old → mark_bit base old i ≡ 1 → x ≡ get_or old (base + i / 64) x
    → ((b : ℕ) → AreTold b (base + i / 64) (set old (base + i / 64) (bit_and x (bit_not w64 (1 * 2 ^ (i % 64) % 2 ^ 64)))) → base + i / 64 ≤ 64 * b → (0 < base + i / 64 → bit_above (set old (base + i / 64) (bit_and x (bit_not w64 (1 * 2 ^ (i % 64) % 2 ^ 64)))) (base + i / 64) ≡ 1) → IsRetold b (set old (base + i / 64) (bit_and x (bit_not w64 (1 * 2 ^ (i % 64) % 2 ^ 64)))) new)
    → IsPut base i 0 old new
clear_is base i x old new l fits told was read tells =
    let at : ℕ = base + i / 64 in
    let w : ℕ = bit_and x (bit_not w64 (1 * 2 ^ (i % 64) % 2 ^ 64)) in
    let lb : i % 64 < 64 = omega arith in
    let here : bit_at w (i % 64) ≡ 0 = bit_at_clear_same w64 x (i % 64) lb in
    put_is base i 0 w old new l (tells base (told_lowest base at w old (omega arith) told) (omega arith) (λ la. said (base + i / 64) w la (omega arith) (some_bit (word_at old (base + i / 64)) (i % 64) was))) here
    (λ b h d. bit_at_clear_other w64 x (i % 64) lb b h d ∙ ap (λ m. bit_at m b) (get_or_read old at x l read 0))
  where
    said : (at w : ℕ) → 0 < at → at ≤ 64 * base → 0 < word_at old at → bit_above (set old at w) at ≡ 1
    said at w la to some =
        let child : 64 * ((at - 1) / 64) + 1 + (at - 1) % 64 ≡ at = omega arith in
        let t : bit_at (word_at old ((at - 1) / 64)) ((at - 1) % 64) ≡ min 1 (word_at old at) = told.each ((at - 1) / 64) ((at - 1) % 64) (omega arith) (omega arith) (λ q. omega arith) ∙ ap (λ m. min 1 (word_at old m)) child in
        ap (λ m. bit_at m ((at - 1) % 64)) (get_or-set_other old at ((at - 1) / 64) w 0 (λ q. omega arith)) ∙ (let r : bit_at (word_at old ((at - 1) / 64)) ((at - 1) % 64) ≡ 1 = omega arith in r)

-- the lowest bit of the first word of the lowest layer is the least mark
pub least_is : (size depth base at : ℕ) (words : List ℕ) → AreTiers size depth base words → IsFirstWord depth at words → word_at words at < 2 ^ 64
    → IsLeast (marks_of size base words) (64 * (at - base) + trailing_zeros w64 (word_at words at))
least_is size depth base at words tiers first fits = record {
  within = subst (λ n. 64 * (at - base) + trailing_zeros w64 (word_at words at) < n) (sym (length-marks_of size base words)) inside;
  marked = marked-bit size base (64 * (at - base) + trailing_zeros w64 (word_at words at)) words inside ∙ eq-eqb (mark_bit base words (64 * (at - base) + trailing_zeros w64 (word_at words at))) 1 bit;
  least = λ j h. marked-bit size base j words (omega (arith, inside)) ∙ ap (λ b. eqb b 1) (before j h);
}
  where
    lowest : (trailing_zeros w64 (word_at words at) < 64) × (bit_at (word_at words at) (trailing_zeros w64 (word_at words at)) ≡ 1) × ((i : ℕ) → i < trailing_zeros w64 (word_at words at) → bit_at (word_at words at) i ≡ 0)
    lowest = bit_at-trailing_zeros w64 (word_at words at) first.some fits

    small : trailing_zeros w64 (word_at words at) < 64
    small = lowest.0

    above : base ≡ upper_words depth
    above = tiers.above

    from : upper_words depth ≤ at
    from = first.from

    place : base + (64 * (at - base) + trailing_zeros w64 (word_at words at)) / 64 ≡ at
    place = omega (arith, small, above, from)

    shift : (64 * (at - base) + trailing_zeros w64 (word_at words at)) % 64 ≡ trailing_zeros w64 (word_at words at)
    shift = omega (arith, small)

    bit : mark_bit base words (64 * (at - base) + trailing_zeros w64 (word_at words at)) ≡ 1
    bit = ap (λ m. bit_at (word_at words m) ((64 * (at - base) + trailing_zeros w64 (word_at words at)) % 64)) place ∙ ap (λ m. bit_at (word_at words at) m) shift ∙ lowest.1

    inside : 64 * (at - base) + trailing_zeros w64 (word_at words at) < size
    inside = elim (cases_lt (64 * (at - base) + trailing_zeros w64 (word_at words at)) size) [
      | inl l ↦ l
      | inr g ↦ (let z : mark_bit base words (64 * (at - base) + trailing_zeros w64 (word_at words at)) ≡ 0 = tiers.outside _ g in absurd (omega (arith, bit)))
    ]

    before : (j : ℕ) → j < 64 * (at - base) + trailing_zeros w64 (word_at words at) → mark_bit base words j ≡ 0
    before j h = elim (cases_eq (base + j / 64) at) [
      | inl e ↦ ap (λ m. bit_at (word_at words m) (j % 64)) e ∙ lowest.2 (j % 64) (omega (arith, small, above, from))
      | inr d ↦ no_bit (word_at words (base + j / 64)) (j % 64) (first.before (base + j / 64) (omega (arith, above)) (omega (arith, small, above, from)))
    ]

-- without a bit at the top there is no mark
pub empty_is : (size depth base : ℕ) (words : List ℕ) → AreTiers size depth base words → word_at words 0 ≡ 0 → IsEmpty (marks_of size base words)
empty_is size depth base words tiers none = record {
  none = λ i. elim (cases_lt i size) [
    | inl l ↦ (
        let count : length words ≡ base + size / 64 + 1 = tiers.count in
        let fits : length words ≤ 64 * base + 1 = tiers.fits in
        let z : word_at words (base + i / 64) ≡ 0 = none_below base (base + i / 64) words tiers.told (omega arith) none in
        marked-bit size base i words l ∙ ap (λ b. eqb b 1) (no_bit (word_at words (base + i / 64)) (i % 64) z))
    | inr g ↦ get_or_past (marks_of size base words) i false (subst (λ n. n ≤ i) (sym (length-marks_of size base words)) g)
  ];
}

-- words without a bit
pub marks_zeros : (size base n : ℕ) → marks_of size base (replicate n 0) ≡ replicate size false
marks_zeros size base n =
    same_lists (marks_of size base (replicate n 0)) (replicate size false)
    (length-marks_of size base (replicate n 0) ∙ sym (length-replicate size false))
    (λ k d h.
    let l : k < size = subst (λ m. k < m) (length-marks_of size base (replicate n 0)) h in
    marks_of-at size base k (replicate n 0) d l ∙ ap (λ b. eqb b 1) (no_bit (word_at (replicate n 0) (base + k / 64)) (k % 64) (zeros-at n (base + k / 64))) ∙ sym (get_or-replicate size k false d l))

-- past the last word there is no bit
some_within : (words : List ℕ) (at : ℕ) → 0 < word_at words at → at < length words
some_within words at some = elim (cases_lt at (length words)) [ inl l ↦ l | inr g ↦ (let z : word_at words at ≡ 0 = get_or_past words at 0 g in absurd (omega arith)) ]

-- what the words are to a set of which only the marks are known
module _ (size depth base : ℕ) (words : List ℕ) (marks : List Bool) (tiers : AreTiers size depth base words) (are : marks_of size base words ≡ marks) where
  pub number_within : (i : ℕ) → i < length marks → i < size
  number_within i l = subst (λ n. i < n) (ap length (sym are) ∙ length-marks_of size base words) l

  pub word_within : (i : ℕ) → i < length marks → base + i / 64 < length words
  word_within i l = let h : i < size = number_within i l in let n : length words ≡ base + size / 64 + 1 = tiers.count in omega arith

  pub mark_set : (i : ℕ) → i < length marks → is_marked marks i ≡ true → mark_bit base words i ≡ 1
  mark_set i l is = eqb-true (mark_bit base words i) 1 (sym (marked-bit size base i words (number_within i l)) ∙ ap (λ m. is_marked m i) are ∙ is)

  pub has_is : (i x : ℕ) → i < length marks → x ≡ get_or words (base + i / 64) x → eqb (bit_and (x / 2 ^ (i % 64)) 1) 1 ≡ is_marked marks i
  has_is i x l read =
      ap (λ m. eqb m 1) (shr_and_one x (i % 64) ∙ ap (λ m. bit_at m (i % 64)) (get_or_read words (base + i / 64) x (word_within i l) read 0))
      ∙ sym (marked-bit size base i words (number_within i l)) ∙ ap (λ m. is_marked m i) are

  pub put_marks : (i v : ℕ) (new : List ℕ) → i < length marks → IsPut base i v words new → marks_of size base new ≡ set marks i (eqb v 1)
  put_marks i v new l put = marks_put size base i v words new (number_within i l) put ∙ ap (λ m. set m i (eqb v 1)) are

  -- the lowest bit of the first word, as it is read
  pub least_marks : (seen read : List ℕ) (at n : ℕ) → seen ≡ words → read ≡ words → IsFirstWord depth at seen → n ≡ (at - base) * 64 + trailing_zeros w64 (word_at read at) → word_at read at < 2 ^ 64 → IsLeast marks n
  least_marks seen read at n sees reads first number fits =
      let e : 64 * (at - base) + trailing_zeros w64 (word_at words at) ≡ n = omega arith ∙ ap (λ ws. (at - base) * 64 + trailing_zeros w64 (word_at ws at)) (sym reads) ∙ sym number in
      let small : word_at words at < 2 ^ 64 = subst (λ ws. word_at ws at < 2 ^ 64) reads fits in
      subst (λ k. IsLeast marks k) e (subst (λ m. IsLeast m (64 * (at - base) + trailing_zeros w64 (word_at words at))) are (least_is size depth base at words tiers (subst (λ ws. IsFirstWord depth at ws) sees first) small))

  pub empty_marks : (seen : List ℕ) → seen ≡ words → word_at seen 0 ≡ 0 → IsEmpty marks
  empty_marks seen sees none = subst IsEmpty are (empty_is size depth base words tiers (subst (λ ws. word_at ws 0 ≡ 0) sees none))

  -- once it is taken, no word before its own has a bit
  pub kept_taken : (seen new : List ℕ) (at n t : ℕ) → seen ≡ words → IsFirstWord depth at seen → n ≡ (at - base) * 64 + t → n < length marks → IsPut base n 0 words new → AreKept size depth base at new
  kept_taken seen new at n t sees first number l put = record {
    tiers = tiers_put size depth base n 0 words new (number_within n l) tiers put;
    before = none_put base at at n 0 words new lowest (omega arith) (omega (arith, lowest)) none put;
  }
    where
      is : IsFirstWord depth at words
      is = subst (λ ws. IsFirstWord depth at ws) sees first

      above : base ≡ upper_words depth
      above = tiers.above

      lowest : base ≤ at
      lowest = let f : upper_words depth ≤ at = is.from in omega (arith, above)

      none : AreNoneBefore base at words
      none = record { lowest = lowest; within = some_within words at is.some; none = λ m h d. is.before m (omega (arith, above)) d }

module _ (size depth base place : ℕ) (words : List ℕ) (marks : List Bool) (kept : AreKept size depth base place words) (are : marks_of size base words ≡ marks) where
  pub kept_marked : (i to : ℕ) (new : List ℕ) → i < length marks → base ≤ to → to ≤ place → to ≤ base + i / 64 → IsPut base i 1 words new → AreKept size depth base to new
  kept_marked i to new l lowest below within put = record {
    tiers = tiers_put size depth base i 1 words new (number_within size depth base words marks kept.tiers are i l) kept.tiers put;
    before = none_put base place to i 1 words new lowest below within kept.before put;
  }

  pub kept_unmarked : (i : ℕ) (new : List ℕ) → i < length marks → is_marked marks i ≡ true → IsPut base i 0 words new → AreKept size depth base place new
  kept_unmarked i new l is put =
      let lowest : base ≤ place = kept.before.lowest in
      let some : 0 < word_at words (base + i / 64) = some_bit (word_at words (base + i / 64)) (i % 64) (mark_set size depth base words marks kept.tiers are i l is) in
      record {
        tiers = tiers_put size depth base i 0 words new (number_within size depth base words marks kept.tiers are i l) kept.tiers put;
        before = none_put base place place i 0 words new lowest (omega arith) (not_before base place (base + i / 64) words kept.before (omega arith) some) kept.before put;
      }
