-- Where two configurations differ, once a bit of one of them is written.
use Rattle.pace_core.proofs.Common.{◌≡◌, ℕ, zero, suc, ◌+◌, ◌-◌, ◌<◌, ◌≤◌, Bool, true, false, not, cond, List, [], ◌∷◌, ◌++◌, length, map, take, drop, get_or, slice_set, Some, refl, sym, ap, ◌∙◌, subst, inl, inr, arith, cases_Bool, false≢true, ext_get_or, length-map, length-set, length-drop, drop_all, get_or-set_same, get_or-set_other, Write, written, length-written, In, In-filter, in_filter, length-filter_le, same_or, take_get, drop_get, xor, config_bit, differs_at, write_of, differences, xor-false, xor-same, rules}
use Rattle.std.specs.List.{slice_get, filter, range_with_len}
use Rattle.std.proofs.lemmas.List.FromFn.{length-range_with_len}
use Rattle.list_laws.proofs.Ranges.{of_range, in_range}
use Rattle.spec_core.proofs.StoreLemmas.{filter_none}

-- one more element in front of the longer list, or of both
longer : (b : Bool) (n : ℕ) (ms ns : List ℕ) → length ms ≡ suc (length ns) → length (cond b (n ∷ ms) ms) ≡ suc (length (cond b (n ∷ ns) ns))
longer true n ms ns e = ap suc e
longer false n ms ns e = e

-- A test and another one, which fails at a number and agrees with the first at every other number.
module _ (test other : ℕ → Bool) (a : ℕ) (fails : other a ≡ false) (agrees : (n : ℕ) → (n ≡ a → ⊥) → other n ≡ test n) where
  -- behind the number they pass the same
  behind : (count from : ℕ) → a < from → filter other (range_with_len from count) ≡ filter test (range_with_len from count)
  behind zero from l = refl
  behind (suc count) from l =
      ap (λ b. cond b (from ∷ filter other (range_with_len (from + 1) count)) (filter other (range_with_len (from + 1) count))) (agrees from (λ e. omega arith))
      ∙ ap (λ ns. cond (test from) (from ∷ ns) ns) (behind count (from + 1) (omega arith))

  -- where the number passes the first one, one more number of a range does
  pub one_more : test a ≡ true → (count from : ℕ) → from ≤ a → a < from + count → length (filter test (range_with_len from count)) ≡ suc (length (filter other (range_with_len from count)))
  one_more passes zero from l u = absurd (omega arith)
  one_more passes (suc count) from l u =
      let ts : List ℕ = filter test (range_with_len (from + 1) count) in
      let os : List ℕ = filter other (range_with_len (from + 1) count) in
      elim (same_or from a) [
        | inl e ↦
            ap (λ b. length (cond b (from ∷ ts) ts)) (ap test e ∙ passes)
            ∙ ap (λ ns. suc (length ns)) (sym (behind count (from + 1) (omega arith)))
            ∙ ap (λ b. suc (length (cond b (from ∷ os) os))) (sym (ap other e ∙ fails))
        | inr d ↦
            longer (test from) from ts os (one_more passes count (from + 1) (omega arith) (omega arith))
            ∙ ap (λ b. suc (length (cond b (from ∷ os) os))) (sym (agrees from d))
      ]

  -- where it is the first number that passes it, the others that do pass the second one
  pub first_is : test a ≡ true → ((n : ℕ) → n < a → test n ≡ false) → (count from : ℕ) → from ≤ a → a < from + count → filter test (range_with_len from count) ≡ a ∷ filter other (range_with_len from count)
  first_is passes none zero from l u = absurd (omega arith)
  first_is passes none (suc count) from l u =
      let ts : List ℕ = filter test (range_with_len (from + 1) count) in
      let os : List ℕ = filter other (range_with_len (from + 1) count) in
      elim (same_or from a) [
        | inl e ↦
            ap (λ b. cond b (from ∷ ts) ts) (ap test e ∙ passes)
            ∙ ap (λ n. n ∷ ts) e
            ∙ ap (λ ns. a ∷ ns) (sym (behind count (from + 1) (omega arith)))
            ∙ ap (λ b. a ∷ cond b (from ∷ os) os) (sym (ap other e ∙ fails))
        | inr d ↦
            let clear : test from ≡ false = none from (omega arith) in
            ap (λ b. cond b (from ∷ ts) ts) clear
            ∙ first_is passes none count (from + 1) (omega arith) (omega arith)
            ∙ ap (λ b. a ∷ cond b (from ∷ os) os) (sym (agrees from d ∙ clear))
      ]

  -- where it is the first one that passes the first test, the others are those that pass the second
  pub first_gone : (count from : ℕ) (rest : List ℕ) → filter test (range_with_len from count) ≡ a ∷ rest → filter other (range_with_len from count) ≡ rest
  first_gone zero from rest e = let l : 0 ≡ suc (length rest) = ap length e in absurd (omega arith)
  first_gone (suc count) from rest e =
      let ts : List ℕ = filter test (range_with_len (from + 1) count) in
      let os : List ℕ = filter other (range_with_len (from + 1) count) in
      elim (cases_Bool (test from)) [
        | inl t ↦
            let whole : from ∷ ts ≡ a ∷ rest = sym (ap (λ b. cond b (from ∷ ts) ts) t) ∙ e in
            let head : from ≡ a = ap (λ ns. get_or ns 0 0) whole in
            ap (λ b. cond b (from ∷ os) os) (ap other head ∙ fails)
            ∙ behind count (from + 1) (omega arith)
            ∙ ap (drop 1) whole
        | inr f ↦
            let whole : ts ≡ a ∷ rest = sym (ap (λ b. cond b (from ∷ ts) ts) f) ∙ e in
            let clear : other from ≡ false = elim (same_or from a) [ inl e ↦ ap other e ∙ fails | inr d ↦ agrees from d ∙ f ] in
            ap (λ b. cond b (from ∷ os) os) clear ∙ first_gone count (from + 1) rest whole
      ]

-- the addresses at which two configurations differ
abbrev pub differing : List Bool → List Bool → List ℕ
differing from to = filter (differs_at from to) (range_with_len 0 (length to))

-- there is a difference for each of these
pub length-differences : (from to : List Bool) → length (differences from to) ≡ length (differing from to)
length-differences from to = length-map (differing from to) (write_of to)

-- there are no more than bits
pub differences_few : (from to : List Bool) → length (differences from to) ≤ length to
differences_few from to = omega (arith, length-differences from to, length-filter_le (differs_at from to) (range_with_len 0 (length to)), length-range_with_len 0 (length to))

-- a list with a member isn't empty
some_in : (ns : List ℕ) (n : ℕ) → In ns n → 0 < length ns
some_in [] n i = elim i [ ]
some_in (m ∷ ns) n i = omega arith

-- where two configurations differ at an address, they have a difference
pub differs_some : (from to : List Bool) (a : ℕ) → a < length to → differs_at from to a ≡ true → 0 < length (differences from to)
differs_some from to a l d =
    omega (arith, some_in (differing from to) a (in_filter (differs_at from to) (range_with_len 0 (length to)) a (in_range 0 (length to) a (omega arith) (omega arith)) d), length-differences from to)

-- configurations without a difference are one
pub no_differences : (from to : List Bool) → length from ≡ length to → length (differences from to) ≡ 0 → from ≡ to
no_differences from to same none = ext_get_or false from to same (λ a l. elim (cases_Bool (differs_at from to a)) [
  | inl d ↦ (let s : 0 < length (differences from to) = differs_some from to a (omega arith) d in absurd (omega arith))
  | inr n ↦ xor-false (config_bit from a) (config_bit to a) n
])

-- a configuration differs nowhere from itself
pub differs_nowhere : (config : List Bool) (a : ℕ) → differs_at config config a ≡ false
differs_nowhere config a = xor-same (config_bit config a) (config_bit config a) refl

-- so it has no difference from itself
pub no_own_differences : (config : List Bool) → length (differences config config) ≡ 0
no_own_differences config = length-differences config config ∙ ap length (filter_none (differs_at config config) (range_with_len 0 (length config)) (differs_nowhere config))

-- The first of two configurations takes the bit of the second at an address: they differ there no more, and elsewhere as before.
module _ (from to : List Bool) (a : ℕ) where
  -- there they do not
  pub written_fails : a < length from → differs_at (slice_set from a (config_bit to a)) to a ≡ false
  written_fails l = xor-same (config_bit (slice_set from a (config_bit to a)) a) (config_bit to a) (get_or-set_same from a (config_bit to a) false l)

  -- elsewhere they do where they did
  pub written_agrees : (bit : Bool) (n : ℕ) → (n ≡ a → ⊥) → differs_at (slice_set from a bit) to n ≡ differs_at from to n
  written_agrees bit n d = ap (λ b. xor b (config_bit to n)) (get_or-set_other from a n bit false d)

  -- so do they where the second one takes any bit
  pub wanted_agrees : (bit : Bool) (n : ℕ) → (n ≡ a → ⊥) → differs_at from (slice_set to a bit) n ≡ differs_at from to n
  wanted_agrees bit n d = ap (xor (config_bit from n)) (get_or-set_other to a n bit false d)

-- writes of addresses, by their first address
writes_parts : (to : List Bool) (addresses : List ℕ) (w : Write) (ws : List Write) → map (write_of to) addresses ≡ w ∷ ws
    → (a : ℕ) × (rest : List ℕ) × (addresses ≡ a ∷ rest) × (w ≡ write_of to a) × (ws ≡ map (write_of to) rest)
writes_parts to [] w ws e = let l : 0 ≡ suc (length ws) = ap length e in absurd (omega arith)
writes_parts to (a ∷ rest) w ws e = (a, rest, refl, sym (ap (λ vs. get_or vs 0 w) e), sym (ap (drop 1) e))

-- what the first difference of two configurations is
pub record IsFirstDifference (from to : List Bool) (w : Write) (ws : List Write) : Type 0 where
  pub within : w.address < length to
  pub bit : w.bit ≡ config_bit to w.address
  pub differs : differs_at from to w.address ≡ true
  pub rest : List ℕ
  pub addresses : differing from to ≡ w.address ∷ rest
  pub later : ws ≡ map (write_of to) rest

-- the first of the differences is this
pub first_difference : (from to : List Bool) (w : Write) (ws : List Write) → differences from to ≡ w ∷ ws → IsFirstDifference from to w ws
first_difference from to w ws e =
    let p = writes_parts to (differing from to) w ws e in
    let f = In-filter (differs_at from to) (range_with_len 0 (length to)) p.0 (subst (λ ns. In ns p.0) (sym p.2) (inl refl)) in
    let r = of_range 0 (length to) p.0 f.0 in
    grind (arith)

-- the first difference is written, and the others are left
pub first_written : (from to : List Bool) (w : Write) (ws : List Write) → length from ≡ length to → differences from to ≡ w ∷ ws → differences (slice_set from w.address w.bit) to ≡ ws
first_written from to w ws same e =
    let first = first_difference from to w ws e in
    ap (λ b. differences (slice_set from w.address b) to) first.bit
    ∙ ap (map (write_of to)) (first_gone (differs_at from to) (differs_at (slice_set from w.address (config_bit to w.address)) to) w.address (written_fails from to w.address (omega arith)) (written_agrees from to w.address (config_bit to w.address))
    (length to) 0 first.rest first.addresses)
    ∙ sym first.later

-- some first differences are written, and the others are left
some_written : (count : ℕ) (from to : List Bool) (ws : List Write) → length from ≡ length to → differences from to ≡ ws → differences (written from (take count ws)) to ≡ drop count ws
some_written (suc count) from to (w ∷ ws) same e = grind (arith, slice_set, length-set, first_written, some_written count (slice_set from w.address w.bit) to ws (length-set from w.address w.bit ∙ same) (first_written from to w ws same e))
some_written count from to ws same e = e

-- so it is with the first differences of a number
pub left_over : (count : ℕ) (from to : List Bool) → length from ≡ length to → differences (written from (take count (differences from to))) to ≡ drop count (differences from to)
left_over count from to same = some_written count from to (differences from to) same refl

-- so many
pub left_count : (count : ℕ) (from to : List Bool) → length from ≡ length to → length (differences (written from (take count (differences from to))) to) ≡ length (differences from to) - count
left_count count from to same = ap length (left_over count from to same) ∙ length-drop count (differences from to)

-- all of them written give the second configuration
pub all_written : (count : ℕ) (from to : List Bool) → length from ≡ length to → length (differences from to) ≤ count → written from (take count (differences from to)) ≡ to
all_written count from to same all = search (rules, no_differences, length-written, left_over, drop_all)

-- writes behind others
pub written-append : (ws vs : List Write) (config : List Bool) → written config (ws ++ vs) ≡ written (written config ws) vs
written-append [] vs config = refl
written-append (w ∷ ws) vs config = written-append ws vs (slice_set config w.address w.bit)

-- one more write of a list
pub written-next : (ws : List Write) (i : ℕ) (w : Write) (config : List Bool) → slice_get ws i ≡ Some w → written config (take (i + 1) ws) ≡ slice_set (written config (take i ws)) w.address w.bit
written-next ws i w config at = ap (written config) (take_get ws i w at) ∙ written-append (take i ws) (w ∷ []) config

-- two bits that differ
pub xor-true : (a b : Bool) → xor a b ≡ true → a ≡ not b
xor-true true false e = refl
xor-true false true e = refl
xor-true a b e = absurd (false≢true e)

-- Of the differences of two configurations the first ones were written: the next one writes another bit than the one that stands.
module _ (from to : List Bool) (ws : List Write) (i : ℕ) (w : Write) (same : length from ≡ length to) (are : ws ≡ differences from to) (at : slice_get ws i ≡ Some w) where
  -- the write is the first of the differences that are left
  next_first : differences (written from (take i ws)) to ≡ w ∷ drop (i + 1) ws
  next_first = some_written i from to ws same (sym are) ∙ drop_get ws i w at

  -- its address is one of theirs
  pub next_within : w.address < length (written from (take i ws))
  next_within = omega (arith, length-written (take i ws) from, (first_difference (written from (take i ws)) to w (drop (i + 1) ws) next_first).within)

  -- the bit that stands there is the other one
  pub next_other : config_bit (written from (take i ws)) w.address ≡ not w.bit
  next_other =
      let first = first_difference (written from (take i ws)) to w (drop (i + 1) ws) next_first in
      xor-true (config_bit (written from (take i ws)) w.address) (config_bit to w.address) first.differs ∙ ap not (sym first.bit)
