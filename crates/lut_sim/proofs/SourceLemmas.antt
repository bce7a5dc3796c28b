-- The sources' values after both writes.
use Rattle.lut_sim.proofs.Common.{◌≡◌, ℕ, ◌+◌, ◌-◌, ◌*◌, ◌<◌, ◌≤◌, Bool, true, false, ◌&&◌, leb, ltb, List, length, get_or, refl, ap, ◌∙◌, inl, inr, arith, or_cases, and_parts, leb-true, leb-false, ltb-true, choose, Shape, last_source, is_regular, source_value, value_in, with_sources, with_tables, HaveSources, TemplateValue, IsPlayable, FitsTables, HasRoom, [], ◌∷◌, IsTrue, sym, subst, In, Lut, is_plain}
use Rattle.lut_sim.proofs.StepLemmas.{with_sources_at, with_sources_other, length-with_sources, with_tables_other}
use Rattle.lut_sim.proofs.FitLemmas.{plain_of_regular, tables_fit, playable_fed}

-- a regular source is an input or a latch
pub data IsInputOrLatch (s : Shape) (n : ℕ) : Type 0 where
  input : 1 ≤ n → n ≤ s.regular → IsInputOrLatch s n
  latch : s.regular + s.params < n → n ≤ last_source s → IsInputOrLatch s n

pub either_side : (s : Shape) (n : ℕ) → is_regular s n ≡ true → IsInputOrLatch s n
either_side s n h = elim (or_cases (leb 1 n && leb n s.regular) (ltb (s.regular + s.params) n && leb n (last_source s)) h) [
  | inl p ↦ (let q = and_parts (leb 1 n) (leb n s.regular) p in input (leb-true 1 n q.0) (leb-true n s.regular q.1))
  | inr p ↦ (let q = and_parts (ltb (s.regular + s.params) n) (leb n (last_source s)) p in latch (ltb-true (s.regular + s.params) n q.0) (leb-true n (last_source s) q.1))
]

-- inputs first, then states from after the parameters on
pub sources_set : (s : Shape) (inputs states vs : List Bool) → length inputs ≡ s.regular → length states ≡ s.latches → 2 * last_source s + 1 < length vs
    → HaveSources s inputs states (with_sources (with_sources vs 1 inputs) (1 + (s.regular + s.params)) states)
sources_set s inputs states vs li ls room = record { each = λ n r. at n (either_side s n r) }
  where
    first : List Bool
    first = with_sources vs 1 inputs

    at : (n : ℕ) → IsInputOrLatch s n → value_in (with_sources (with_sources vs 1 inputs) (1 + (s.regular + s.params)) states) (2 * n) ≡ source_value s inputs states n
    at n (input low high) =
        let e : 2 * n ≡ 2 * (1 + (n - 1)) = omega arith in
        with_sources_other states (with_sources vs 1 inputs) (1 + (s.regular + s.params)) (2 * n) (λ i k q. omega arith)
        ∙ ap (value_in (with_sources vs 1 inputs)) e
        ∙ with_sources_at inputs vs 1 (n - 1) (omega arith) (omega arith)
        ∙ choose (λ b. get_or inputs (n - 1) false ≡ b) (leb n s.regular) (get_or inputs (n - 1) false) (get_or states (n - 1 - (s.regular + s.params)) false) (λ _. refl) (λ no. absurd (let c = leb-false n s.regular no in omega arith))
    at n (latch low high) =
        let i : ℕ = n - 1 - (s.regular + s.params) in
        let e : 2 * n ≡ 2 * (1 + (s.regular + s.params) + i) = omega arith in
        let l : length (with_sources vs 1 inputs) ≡ length vs = length-with_sources inputs vs 1 in
        ap (value_in (with_sources (with_sources vs 1 inputs) (1 + (s.regular + s.params)) states)) e
        ∙ with_sources_at states (with_sources vs 1 inputs) (1 + (s.regular + s.params)) i (omega arith) (omega arith)
        ∙ choose (λ b. get_or states i false ≡ b) (leb n s.regular) (get_or inputs (n - 1) false) (get_or states i false) (λ here. absurd (let c : n ≤ s.regular = leb-true n s.regular here in omega arith)) (λ _. refl)

-- after the sources are set and all tables are played, the values of the literals fit
pub played_fit : (c : TemplateValue) (s : Shape) (config inputs states vs : List Bool) → IsPlayable c s → HasRoom c s (length vs) → HaveSources s inputs states vs
    → FitsTables c.luts s config inputs states (value_in (with_tables s config vs c.luts))
played_fit c s config inputs states vs p r h = record {
  source = λ n q. with_tables_other s config vs c.luts (2 * n) (λ t i e. plain_of_regular s n q) ∙ h.each n q;
  table = λ t i n. tables_fit s config vs c.luts p.ascending (playable_fed c s p) r.tables t i n;
}

-- its table
abbrev pub complement : Lut
complement = record { lit = record { 0 = 3 }; leaves = 1 ∷ []; base = 0 }

-- the circuit
abbrev pub toggle : TemplateValue
toggle = record { luts = complement ∷ []; outputs = record { 0 = 2 } ∷ []; next = record { 0 = 3 } ∷ []; bits = 2; depth = 1 }

abbrev pub one_latch : Shape
one_latch = record { regular = 0; params = 0; latches = 1 }

-- the only member of a list of one
pub only : {A : Type 0} (x y : A) → In (x ∷ []) y → y ≡ x
only x y (inl e) = e
only x y (inr i) = elim i [ ]

-- its leaf is the latch
leaf_is : (u : Lut) (m : ℕ) → In (complement ∷ []) u → In u.leaves m → m ≡ 1
leaf_is u m i j = only 1 m (subst (λ (x : Lut). In x.leaves m) (only complement u i) j)

pub toggle-playable : IsPlayable toggle one_latch
toggle-playable = record {
  latches = refl;
  leaves = λ u m i j. inl (subst (λ n. IsTrue (is_regular one_latch n)) (sym (leaf_is u m i j)) refl);
  below = λ u m i j h. absurd (let e : m ≡ 1 = leaf_is u m i j in let l : 1 < m = h in omega arith);
  fed = λ u m i j h. absurd (let e : m ≡ 1 = leaf_is u m i j in let l : 1 < m = h in omega arith);
  ascending = (λ u i. absurd i, tt);
  bases = (refl, tt);
  sum = refl;
  outputs = λ l i. inl (subst (λ n. IsTrue (is_plain one_latch n)) (sym (only 2 l i)) refl);
  next = λ l i. inr (record { table = complement; in' = inl refl; is = sym (only 3 l i) });
}
