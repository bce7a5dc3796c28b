-- There is room for each LUT of a playable circuit, and how many LUTs a circuit can have.
use Rattle.lut_sim.proofs.Common.{◌≡◌, ℕ, suc, ◌+◌, ◌-◌, ◌*◌, ◌/◌, ◌^◌, ◌<◌, ◌≤◌, Bool, true, List, [], ◌∷◌, length, get_or, slice_set, take, refl, sym, ap, ◌∙◌, subst, inl, inr, arith, ◌&&◌, ◌||◌, leb, ltb, ◌++◌, append-nil, append_assoc, length-set, or_cases, and_parts, leb-true, take_more_set, take_all, In, Lut, TemplateValue, AscendByLit, bits_of, Shape, last_source, is_regular, IsPlayable, HasRoom, IsTableInRoom, filled}
use Rattle.cover_pick.proofs.BitsLemmas.{base_within}
use Rattle.std.proofs.lemmas.List.Sums.{sum_by-cons}
use Rattle.std.proofs.Math.Nat.{one-le-pow}

-- a test on two sides that are both within a bound
either_within : (a b c d : Bool) (m n : ℕ) → (b ≡ true → m ≤ n) → (d ≡ true → m ≤ n) → ((a && b) || (c && d)) ≡ true → m ≤ n
either_within a b c d m n l r h = elim (or_cases (a && b) (c && d) h) [ inl p ↦ l (and_parts a b p).1 | inr p ↦ r (and_parts c d p).1 ]

-- a regular source is one of the sources
pub regular_within : (s : Shape) (m : ℕ) → is_regular s m ≡ true → m ≤ last_source s
regular_within s m h =
    either_within (leb 1 m) (leb m s.regular) (ltb (s.regular + s.params) m) (leb m (last_source s)) m (last_source s)
    (λ e. let l : m ≤ s.regular = leb-true m s.regular e in omega arith) (λ e. leb-true m (last_source s) e) h

-- each table of a playable circuit has room for its literal, its leaves and its bits
pub table_in_room : (c : TemplateValue) (s : Shape) (size bits : ℕ) → IsPlayable c s → HasRoom c s size → bits ≡ c.bits → (t : Lut) → In c.luts t → IsTableInRoom t bits size
table_in_room c s size bits p r e t i = record {
  literal = r.tables t i;
  leaves = λ m j. let l : t.lit.0 < size = r.tables t i in let q : 2 * last_source s + 1 < size = r.sources in elim (p.leaves t m i j) [
    | inl a ↦ (let w : m ≤ last_source s = regular_within s m a in omega arith)
    | inr a ↦ (let b : m < t.lit.0 / 2 = p.below t m i j a in omega arith)
  ];
  bits_in = let w : t.base + 2 ^ length t.leaves ≤ 0 + bits_of c.luts = base_within 0 c.luts t p.bases i in let q : c.bits ≡ bits_of c.luts = p.sum in omega arith;
}

-- the last table has the greatest literal
pub last_greatest : (ts : List Lut) (t d : Lut) → AscendByLit ts → In ts t → t.lit.0 ≤ (get_or ts (length ts - 1) d).lit.0
last_greatest [] t d a i = elim i [ ]
last_greatest (u ∷ []) t d a (inl e) = subst (λ (x : Lut). x.lit.0 ≤ u.lit.0) (sym e) (omega arith)
last_greatest (u ∷ []) t d a (inr i) = elim i [ ]
last_greatest (u ∷ v ∷ ts) t d a (inl e) =
    let l : u.lit.0 < v.lit.0 = a.0 v (inl refl) in
    let r : v.lit.0 ≤ (get_or (v ∷ ts) (length (v ∷ ts) - 1) d).lit.0 = last_greatest (v ∷ ts) v d a.1 (inl refl) in
    let s : t.lit.0 ≡ u.lit.0 = ap (λ (x : Lut). x.lit.0) e in
    let same : length (u ∷ v ∷ ts) - 1 ≡ suc (length (v ∷ ts) - 1) = omega arith in
    subst (λ n. t.lit.0 ≤ (get_or (u ∷ v ∷ ts) n d).lit.0) (sym same) (omega arith)
last_greatest (u ∷ v ∷ ts) t d a (inr i) =
    let r : t.lit.0 ≤ (get_or (v ∷ ts) (length (v ∷ ts) - 1) d).lit.0 = last_greatest (v ∷ ts) t d a.1 i in
    let same : length (u ∷ v ∷ ts) - 1 ≡ suc (length (v ∷ ts) - 1) = omega arith in
    subst (λ n. t.lit.0 ≤ (get_or (u ∷ v ∷ ts) n d).lit.0) (sym same) r

-- a list that is written over from a place to its end
pub filled-all : (bits bs : List Bool) (i : ℕ) → length bits ≡ i + length bs → filled bits i bs ≡ take i bits ++ bs
filled-all bits [] i e = sym (append-nil (take i bits) ∙ take_all i bits (omega arith))
filled-all bits (b ∷ bs) i e =
    let n : length (slice_set bits i b) ≡ length bits = length-set bits i b in
    filled-all (slice_set bits i b) bs (i + 1) (omega arith)
    ∙ ap (λ xs. xs ++ bs) (take_more_set bits i b (omega arith))
    ∙ append_assoc (take i bits) (b ∷ []) bs

-- a list that is written over from its start
pub filled-from_start : (bits bs : List Bool) → length bits ≡ length bs → filled bits 0 bs ≡ bs
filled-from_start bits bs e = filled-all bits bs 0 (omega arith)

-- each table has a bit
tables_fit : (ts : List Lut) → length ts ≤ bits_of ts
tables_fit [] = omega arith
tables_fit (t ∷ ts) = omega (arith, sum_by-cons (λ (u : Lut). 2 ^ length u.leaves) t ts, one-le-pow (length t.leaves) 2 (omega arith), tables_fit ts)

-- there are no more tables than bits
pub tables_within_bits : (t : TemplateValue) (shape : Shape) → IsPlayable t shape → length t.luts ≤ t.bits
tables_within_bits t shape playable = omega (arith, playable.sum, tables_fit t.luts)
