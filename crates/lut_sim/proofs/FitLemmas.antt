-- Values that fit the LUTs: those that a cycle leaves do, and any others agree with them at each LUT.
use Rattle.lut_sim.proofs.Common.{◌≡◌, ℕ, zero, suc, ◌+◌, ◌*◌, ◌/◌, ◌%◌, ◌<◌, ◌≤◌, Bool, true, false, eqb, List, [], ◌∷◌, length, get_or, map, refl, sym, ap, ◌∙◌, subst, inl, inr, arith, cases_Bool, and_parts, and_from, eq-eqb, eqb-true, In, number, map_agree, lits_of, Lut, TemplateValue, AscendByLit, HasLut, Shape, is_regular, is_plain, IsPlayable, HasValue, address, FitsTables, IsOnlyTableCycle, value_in, with_table, with_tables}
use Rattle.lut_sim.proofs.StepLemmas.{with_tables_other, with_table_other, with_table_here, length-with_table, IsFed}

-- a positive literal's phase and node
even : (m : ℕ) → (2 * m) % 2 ≡ 0
even m = omega arith

halved : (m : ℕ) → (2 * m) / 2 ≡ m
halved m = omega arith

-- the positive literal of a regular source is plain
pub plain_of_regular : (s : Shape) (m : ℕ) → is_regular s m ≡ true → is_plain s (2 * m) ≡ true
plain_of_regular s m h = and_from (eqb ((2 * m) % 2) 0) (is_regular s ((2 * m) / 2)) (eq-eqb ((2 * m) % 2) 0 (even m)) (ap (is_regular s) (halved m) ∙ h)

-- a plain literal is the positive literal of its node, which is regular
pub plain_parts : (s : Shape) (l : ℕ) → is_plain s l ≡ true → (l ≡ 2 * (l / 2)) × (is_regular s (l / 2) ≡ true)
plain_parts s l h =
    let p = and_parts (eqb (l % 2) 0) (is_regular s (l / 2)) h in
    (omega (arith, eqb-true (l % 2) 0 p.0), p.1)

-- two values that agree at the leaves give the same address
pub address_agree : (v w : ℕ → Bool) (t : Lut) → ((m : ℕ) → In t.leaves m → v (2 * m) ≡ w (2 * m)) → address v t ≡ address w t
address_agree v w t h = ap (λ bs. t.base + number bs) (map_agree (λ m. v (2 * m)) (λ m. w (2 * m)) t.leaves h)

-- a table that is above a literal is no table of it, nor is a table that is past it in the order
later_differs : (ts : List Lut) (t : Lut) (l : ℕ) → ((u : Lut) → In ts u → t.lit.0 < u.lit.0) → l ≤ t.lit.0 → (u : Lut) → In ts u → u.lit.0 ≡ l → ⊥
later_differs ts t l above le u i e = let a : t.lit.0 < u.lit.0 = above u i in absurd (omega arith)

-- after all tables are played, each has the bit at the address of its leaves' values
pub tables_fit : (s : Shape) (config vs : List Bool) (ts : List Lut) → AscendByLit ts → ((t : Lut) → In ts t → IsFed s t) → ((t : Lut) → In ts t → t.lit.0 < length vs)
    → (t : Lut) → In ts t → is_plain s t.lit.0 ≡ false → value_in (with_tables s config vs ts) t.lit.0 ≡ get_or config (address (value_in (with_tables s config vs ts)) t) false
tables_fit s config vs [] asc fed room t i n = elim i [ ]
tables_fit s config vs (u ∷ ts) asc fed room t (inl e) n =
    subst (λ (x : Lut). value_in (with_tables s config (with_table s config vs u) ts) x.lit.0 ≡ get_or config (address (value_in (with_tables s config (with_table s config vs u) ts)) x) false) (sym e) here
  where
    after : List Bool
    after = with_tables s config (with_table s config vs u) ts

    plain : is_plain s u.lit.0 ≡ false
    plain = subst (λ (x : Lut). is_plain s x.lit.0 ≡ false) e n

    leaf : (m : ℕ) → In u.leaves m → value_in vs (2 * m) ≡ value_in (with_tables s config (with_table s config vs u) ts) (2 * m)
    leaf m i = sym (
        with_tables_other s config (with_table s config vs u) ts (2 * m)
        (λ x j k. elim ((fed u (inl refl)).each m i) [ inl p ↦ p | inr l ↦ absurd (later_differs ts u (2 * m) asc.0 (omega arith) x j k) ])
        ∙ with_table_other s config vs u (2 * m) (λ k. elim ((fed u (inl refl)).each m i) [ inl p ↦ p | inr l ↦ absurd (omega arith) ]))

    here : value_in (with_tables s config (with_table s config vs u) ts) u.lit.0 ≡ get_or config (address (value_in (with_tables s config (with_table s config vs u) ts)) u) false
    here =
        with_tables_other s config (with_table s config vs u) ts u.lit.0 (λ x j k. absurd (later_differs ts u u.lit.0 asc.0 (omega arith) x j k))
        ∙ with_table_here s config vs u plain (room u (inl refl))
        ∙ ap (λ a. get_or config a false) (address_agree (value_in vs) (value_in (with_tables s config (with_table s config vs u) ts)) u leaf)
tables_fit s config vs (u ∷ ts) asc fed room t (inr i) n =
    tables_fit s config (with_table s config vs u) ts asc.1 (λ x j. fed x (inr j))
    (λ x j. let l : length (with_table s config vs u) ≡ length vs = length-with_table s config vs u in let r : x.lit.0 < length vs = room x (inr j) in omega arith) t i n

-- a playable table is fed by regular sources and by tables below it
pub playable_fed : (c : TemplateValue) (s : Shape) → IsPlayable c s → (t : Lut) → In c.luts t → IsFed s t
playable_fed c s p t i = record {
  each = λ m j. elim (p.leaves t m i j) [ inl r ↦ inl (plain_of_regular s m r) | inr a ↦ (let b : m < t.lit.0 / 2 = p.below t m i j a in inr (omega arith)) ];
}

-- at the positive literal of a regular source both are its value
plain_agree : (c : TemplateValue) (s : Shape) (config inputs states : List Bool) (v w : ℕ → Bool) → FitsTables c.luts s config inputs states v → FitsTables c.luts s config inputs states w
    → (l : ℕ) → is_plain s l ≡ true → v l ≡ w l
plain_agree c s config inputs states v w fv fw l at_source =
    let q = plain_parts s l at_source in
    ap v q.0 ∙ fv.source (l / 2) q.1 ∙ sym (ap w q.0 ∙ fw.source (l / 2) q.1)

-- at a table's literal they agree where they do at its leaves
table_agree : (c : TemplateValue) (s : Shape) (config inputs states : List Bool) (v w : ℕ → Bool) → FitsTables c.luts s config inputs states v → FitsTables c.luts s config inputs states w
    → (l : ℕ) (lut : HasLut c.luts l) → is_plain s l ≡ false → ((m : ℕ) → In lut.table.leaves m → v (2 * m) ≡ w (2 * m)) → v l ≡ w l
table_agree c s config inputs states v w fv fw l lut not leaf =
    let t : Lut = lut.table in
    let plain : is_plain s t.lit.0 ≡ false = ap (is_plain s) lut.is ∙ not in
    ap v (sym lut.is) ∙ fv.table t lut.in' plain ∙ ap (λ a. get_or config a false) (address_agree v w t leaf) ∙ sym (fw.table t lut.in' plain) ∙ ap w lut.is

-- Values that fit the tables agree at each literal that has a value.
below_agree : (c : TemplateValue) (s : Shape) (config inputs states : List Bool) (v w : ℕ → Bool) → IsPlayable c s → FitsTables c.luts s config inputs states v → FitsTables c.luts s config inputs states w
    → (n l : ℕ) → l < n → HasValue c s l → v l ≡ w l
below_agree c s config inputs states v w p fv fw zero l h has = absurd (omega arith)
below_agree c s config inputs states v w p fv fw (suc n) l h (inl at_source) = plain_agree c s config inputs states v w fv fw l at_source
below_agree c s config inputs states v w p fv fw (suc n) l h (inr lut) = elim (cases_Bool (is_plain s l)) [
  | inl p ↦ plain_agree c s config inputs states v w fv fw l p
  | inr q ↦ table_agree c s config inputs states v w fv fw l lut q (λ m i. elim (p.leaves lut.table m lut.in' i) [
    | inl r ↦ fv.source m r ∙ sym (fw.source m r)
    | inr a ↦ below_agree c s config inputs states v w p fv fw n (2 * m)
        (let b : m < lut.table.lit.0 / 2 = p.below lut.table m lut.in' i a in let e : lut.table.lit.0 ≡ l = lut.is in omega arith)
        (inr (p.fed lut.table m lut.in' i a))
  ])
]

-- so they agree at all roots
pub FitsTables-agree : (c : TemplateValue) (s : Shape) (config inputs states : List Bool) (v w : ℕ → Bool) → IsPlayable c s → FitsTables c.luts s config inputs states v → FitsTables c.luts s config inputs states w
    → (ls : List ℕ) → ((l : ℕ) → In ls l → HasValue c s l) → map v ls ≡ map w ls
FitsTables-agree c s config inputs states v w p fv fw ls has =
    map_agree v w ls (λ l i. below_agree c s config inputs states v w p fv fw (suc l) l (omega arith) (has l i))

-- the roots' values under values that fit are those under any values that fit
pub cycle_only : (c : TemplateValue) (s : Shape) (config inputs states outputs next : List Bool) (v : ℕ → Bool) → IsPlayable c s → FitsTables c.luts s config inputs states v
    → outputs ≡ map v (lits_of c.outputs) → next ≡ map v (lits_of c.next) → IsOnlyTableCycle c s config inputs states outputs next
cycle_only c s config inputs states outputs next v p fv eo en = record {
  outputs_are = λ w fw. eo ∙ FitsTables-agree c s config inputs states v w p fv fw (lits_of c.outputs) p.outputs;
  next_are = λ w fw. en ∙ FitsTables-agree c s config inputs states v w p fv fw (lits_of c.next) p.next;
}
