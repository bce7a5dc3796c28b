-- What making the bits of LUTs takes: of a LUT its own nodes at each address, and of the shared nodes those that wait, each once. So the work by either rule is room enough.
use Rattle.bit_fun.proofs.Common.{◌≡◌, ℕ, zero, suc, ◌+◌, ◌-◌, ◌*◌, ◌/◌, ◌^◌, ◌<◌, ◌≤◌, Bool, true, false, not, List, [], ◌∷◌, ◌++◌, length, refl, sym, ap, ◌∙◌, subst, inl, inr, ◌⊎◌, arith, length-append, length-reverse, reverse, add-mul, mul-add, mul-one, one-mul, mul-le-mul_left, true≢false, In, In-append, Aig, node_count, Lut, Path, path_here, path_left, path_right, IsDescending, AreOwn, IsTableWork, IsOwnWork, AreShared, IsWork, once_by, IsLight, IsMakeable, IsFree, mark_of, AreFree, Lit, IsConeOrder, AreMarked, AreCounted, waiting, IsCountedWork, HasRoom, IsTableWithin, IsGrown, AreApart, apart_short, joined_apart, filtered_apart, In-left, In-right, In-filter, in_filter, length-filter_le}
use Rattle.std.specs.Prelude.{filter}
use Rattle.cover_pick.specs.Rounds.{Supply, Rows, Sets}
use Rattle.bit_fun.proofs.ConeWalkLemmas.{less_false, order_within}

descending_apart : (ns : List ℕ) → IsDescending ns → AreApart ns
descending_apart [] d = tt
descending_apart (n ∷ ns) d = ((λ i. let w : n < n = d.0 n i in omega arith), descending_apart ns d.1)

-- the nodes that wait
abbrev wait : List Bool → List ℕ → List ℕ
wait kept shared = filter (λ m. not (mark_of kept m)) shared

waits_in : (kept : List Bool) (shared : List ℕ) (m : ℕ) → In shared m → mark_of kept m ≡ false → In (wait kept shared) m
waits_in kept shared m i e = in_filter (λ k. not (mark_of kept k)) shared m i (ap not e)

not_true : (b : Bool) → not b ≡ true → b ≡ false
not_true true e = absurd (true≢false (sym e))
not_true false e = refl

waits : (kept : List Bool) (shared : List ℕ) (m : ℕ) → In (wait kept shared) m → In shared m × (mark_of kept m ≡ false)
waits kept shared m i = let h = In-filter (λ k. not (mark_of kept k)) shared m i in (h.0, not_true (mark_of kept m) h.1)

-- a table has a bit
some_bits : (n : ℕ) → 1 ≤ 2 ^ n
some_bits zero = omega arith
some_bits (suc n) = let l : 1 ≤ 2 ^ n = some_bits n in omega arith

split_room : (k c : ℕ) → 1 ≤ k → k * c ≡ c + (k - 1) * c
split_room k c l = grind (arith, add-mul, one-mul)

-- The walks of a table: the first before the free nodes of its order are marked, the other after it.
module _ (g : Aig) (free : List Bool) (t : Lut) (kept marked : List Bool) (first : List ℕ) (cone : IsConeOrder g t.leaves kept (t.lit.0 / 2) (reverse first)) (marks : AreMarked free kept marked (reverse first)) where
  -- the first order has own nodes, and shared ones that wait no more
  pub first_few : (own shared : List ℕ) → AreCounted g free t own shared → length first + waiting marked shared ≤ length own + waiting kept shared
  first_few own shared counted =
      let short : length (reverse first ++ wait marked shared) ≤ length (own ++ wait kept shared) =
      apart_short (reverse first ++ wait marked shared) (own ++ wait kept shared)
      (joined_apart (reverse first) (wait marked shared) cone.apart (filtered_apart (λ m. not (mark_of marked m)) shared counted.apart)
      (λ m i j. let w = waits marked shared m j in true≢false (sym (marks.these m i (counted.marked m w.0)) ∙ w.1)))
      (λ m i. elim (In-append (reverse first) (wait marked shared) m i) [
        | inl j ↦ elim (counted.each m (cone.paths m j)) [
          | inl k ↦ In-left own (wait kept shared) m k
          | inr k ↦ In-right own (wait kept shared) m (waits_in kept shared m k (cone.fresh m j))
        ]
        | inr j ↦ (let w = waits marked shared m j in In-right own (wait kept shared) m (waits_in kept shared m w.0 (less_false (mark_of kept m) (mark_of marked m) (marks.stay m) w.1)))
      ]) in
      omega (arith, short, length-reverse first, length-append (reverse first) (wait marked shared), length-append own (wait kept shared))

  -- and the other one own nodes alone
  pub rest_few : (rest own shared : List ℕ) → IsConeOrder g t.leaves marked (t.lit.0 / 2) (reverse rest) → AreCounted g free t own shared → length rest ≤ length own
  rest_few rest own shared more counted =
      let short : length (reverse rest) ≤ length own = grind (arith, apart_short, true≢false, order_within) in
      omega (arith, short, length-reverse rest)

  -- a pack that has room for a table has room for its first bit
  pub first_room : (pack : Aig) → HasRoom g free t kept pack → length pack.pairs + length first ≤ pack.max
  first_room pack has = omega (arith, has.room, first_few has.own has.shared has.counted, split_room (2 ^ length t.leaves) (length has.own) (some_bits (length t.leaves)))

  -- and then for the others
  pub rest_room : (rest : List ℕ) (old mid : Aig) (lits : List Lit) → IsConeOrder g t.leaves marked (t.lit.0 / 2) (reverse rest) → HasRoom g free t kept old → IsGrown g old mid (length first) lits → length mid.pairs + (2 ^ length t.leaves - 1) * length rest ≤ mid.max
  rest_room rest old mid lits more has grown =
      let times = mul-le-mul_left (2 ^ length t.leaves - 1) (rest_few rest has.own has.shared more has.counted) in
      omega (arith, ap (λ (m : Aig). m.max) grown.same, times, grown.few, has.room, first_few has.own has.shared has.counted, split_room (2 ^ length t.leaves) (length has.own) (some_bits (length t.leaves)))

  -- so the bits of a table take no more
  pub table_within : (rest : List ℕ) (old mid new : Aig) (lits after : List Lit) → IsConeOrder g t.leaves marked (t.lit.0 / 2) (reverse rest) → IsGrown g old mid (length first) lits → IsGrown g mid new ((2 ^ length t.leaves - 1) * length rest) after
      → IsTableWithin g free t old kept new marked
  table_within rest old mid new lits after more one others = record {
    few = λ own shared counted.
        let times = mul-le-mul_left (2 ^ length t.leaves - 1) (rest_few rest own shared more counted) in
        omega (arith, times, one.few, others.few, first_few own shared counted, split_room (2 ^ length t.leaves) (length own) (some_bits (length t.leaves)));
  }

-- a pack that has room for the bits from the second on has room for the next one
pub bit_room : (g old new : Aig) (v last long : ℕ) (lits : List Lit) → 1 ≤ v → v < last → length old.pairs + (last - 1) * long ≤ old.max → IsGrown g old new ((v - 1) * long) lits → length new.pairs + long ≤ new.max
bit_room g old new v last long lits some l room grown = grind arith

-- the work of a table, and of those that are left
pub work_split : (k own rest work : ℕ) → work ≡ k * (1 + own) + rest → work ≡ k + k * own + rest
work_split k own rest work e = omega (arith, e, mul-add k 1 own, mul-one k)

-- The work by either rule, counted so.
path_inside : (g : Aig) (leaves : List ℕ) (m n : ℕ) → Path g leaves m n → m < node_count g
path_inside g leaves m n (path_here inner e) = subst (λ k. k < node_count g) e (inner.and).1
path_inside g leaves m n (path_left p inner is q) = path_inside g leaves m (p.x.0 / 2) q
path_inside g leaves m n (path_right p inner is q) = path_inside g leaves m (p.y.0 / 2) q

-- which nodes a rule counts once: none, or those that are marked as free
once_or : (g : Aig) (luts : List Lut) (free : List Bool) (supply : Supply) (m : ℕ) → AreFree g luts free → ((n : ℕ) → n < node_count g → IsFree g luts n → mark_of free n ≡ true) → m < node_count g
    → (once_by supply g luts m × (mark_of free m ≡ true)) ⊎ (once_by supply g luts m → ⊥)
once_or g luts free (Rows table) m only all inside = inr (λ f. f)
once_or g luts free (Sets k low) m only all inside = grind arith

module _ (g : Aig) (luts : List Lut) (free : List Bool) (once : ℕ → Type 0) (decide : (m : ℕ) → m < node_count g → (once m × (mark_of free m ≡ true)) ⊎ (once m → ⊥)) (shared : List ℕ) (are : AreShared g once luts shared) where
  table_counted : (t : Lut) (own : List ℕ) → In luts t → AreOwn g once t.leaves (t.lit.0 / 2) own → AreCounted g free t own shared
  table_counted t own among is = record {
    each = λ m p. elim (decide m (path_inside g t.leaves m (t.lit.0 / 2) p)) [ inl h ↦ inr (are.all m t among p h.0) | inr out ↦ inl (is.all m p out) ];
    marked = λ m i. let h = are.only m i in elim (decide m (path_inside g (h.1).leaves m ((h.1).lit.0 / 2) h.3)) [ inl d ↦ d.1 | inr out ↦ absurd (out h.0) ];
    apart = descending_apart shared are.descending;
  }

  work_counted : (ts : List Lut) (work : ℕ) → ((t : Lut) → In ts t → In luts t) → IsOwnWork g once ts work → IsCountedWork g free shared ts work
  work_counted [] work among is = is
  work_counted (t ∷ ts) work among is =
      let one : IsTableWork g once t is.0 = is.2 in
      (one.nodes, is.1, table_counted t one.nodes (among t (inl refl)) one.are, work_counted ts is.1 (λ u i. among u (inr i)) is.3, omega (arith, is.4, one.work_is))

pub record HasCount (g : Aig) (free : List Bool) (luts : List Lut) : Type 0 where
  pub shared : List ℕ
  pub work : ℕ
  pub is : IsCountedWork g free shared luts work
  pub light : work + length shared ≤ 33554432

pub count_work : (g : Aig) (luts : List Lut) (free : List Bool) → AreFree g luts free → ((n : ℕ) → n < node_count g → IsFree g luts n → mark_of free n ≡ true) → IsMakeable g luts → HasCount g free luts
count_work g luts free only all makeable = grind (arith, work_counted, once_or)

pub waiting_few : (kept : List Bool) (shared : List ℕ) → waiting kept shared ≤ length shared
waiting_few kept shared = length-filter_le (λ m. not (mark_of kept m)) shared
