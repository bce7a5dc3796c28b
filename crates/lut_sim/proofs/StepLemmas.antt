-- What the steps of a cycle write, and what they leave.
use Rattle.lut_sim.proofs.Common.{◌≡◌, ℕ, zero, suc, ◌+◌, ◌*◌, ◌<◌, Bool, true, false, List, [], ◌∷◌, length, get_or, slice_set, get_or-set_same, get_or-set_other, refl, sym, ap, ◌∙◌, inl, inr, ◌⊎◌, arith, length-set, false≢true, In, choose, choose_one, Lut, Shape, is_plain, address, value_in, with_sources, with_table, with_tables}

-- the sources' values keep the length
pub length-with_sources : (bs vs : List Bool) (n : ℕ) → length (with_sources vs n bs) ≡ length vs
length-with_sources [] vs n = refl
length-with_sources (b ∷ bs) vs n = length-with_sources bs (slice_set vs (2 * n) b) (n + 1) ∙ length-set vs (2 * n) b

-- they leave every other literal
pub with_sources_other : (bs vs : List Bool) (n l : ℕ) → ((i : ℕ) → i < length bs → l ≡ 2 * (n + i) → ⊥) → value_in (with_sources vs n bs) l ≡ value_in vs l
with_sources_other [] vs n l h = refl
with_sources_other (b ∷ bs) vs n l h =
    with_sources_other bs (slice_set vs (2 * n) b) (n + 1) l (λ i k e. h (suc i) (omega arith) (omega arith))
    ∙ get_or-set_other vs (2 * n) l b false (λ e. h 0 (omega arith) (omega arith))

-- each bit is the value of its source
pub with_sources_at : (bs vs : List Bool) (n i : ℕ) → i < length bs → 2 * (n + i) < length vs → value_in (with_sources vs n bs) (2 * (n + i)) ≡ get_or bs i false
with_sources_at [] vs n i h w = absurd (omega arith)
with_sources_at (b ∷ bs) vs n zero h w =
    with_sources_other bs (slice_set vs (2 * n) b) (n + 1) (2 * (n + 0)) (λ i k e. omega arith)
    ∙ ap (λ m. value_in (slice_set vs (2 * n) b) m) (let e : 2 * (n + 0) ≡ 2 * n = omega arith in e)
    ∙ get_or-set_same vs (2 * n) b false (omega arith)
with_sources_at (b ∷ bs) vs n (suc i) h w =
    let e : 2 * (n + suc i) ≡ 2 * (n + 1 + i) = omega arith in
    let s : length (slice_set vs (2 * n) b) ≡ length vs = length-set vs (2 * n) b in
    ap (λ m. value_in (with_sources (slice_set vs (2 * n) b) (n + 1) bs) m) e ∙ with_sources_at bs (slice_set vs (2 * n) b) (n + 1) i (omega arith) (omega arith)

-- a table's write keeps the length
pub length-with_table : (s : Shape) (config vs : List Bool) (t : Lut) → length (with_table s config vs t) ≡ length vs
length-with_table s config vs t = choose_one (λ xs. length xs ≡ length vs) (is_plain s t.lit.0) vs _ refl (length-set vs t.lit.0 _)

-- so do all tables' writes
pub length-with_tables : (s : Shape) (config vs : List Bool) (ts : List Lut) → length (with_tables s config vs ts) ≡ length vs
length-with_tables s config vs [] = refl
length-with_tables s config vs (t ∷ ts) = length-with_tables s config (with_table s config vs t) ts ∙ length-with_table s config vs t

-- a table leaves every literal but its own, and that too where it is a regular source's
pub with_table_other : (s : Shape) (config vs : List Bool) (t : Lut) (l : ℕ) → (t.lit.0 ≡ l → is_plain s l ≡ true) → value_in (with_table s config vs t) l ≡ value_in vs l
with_table_other s config vs t l h =
    choose (λ xs. value_in xs l ≡ value_in vs l) (is_plain s t.lit.0) vs _ (λ e. refl)
    (λ e. get_or-set_other vs t.lit.0 l _ false (λ k. false≢true (sym e ∙ ap (is_plain s) (sym k) ∙ h (sym k))))

-- it gives its own literal the bit at its address
pub with_table_here : (s : Shape) (config vs : List Bool) (t : Lut) → is_plain s t.lit.0 ≡ false → t.lit.0 < length vs → value_in (with_table s config vs t) t.lit.0 ≡ get_or config (address (value_in vs) t) false
with_table_here s config vs t h w =
    choose (λ xs. value_in xs t.lit.0 ≡ get_or config (address (value_in vs) t) false) (is_plain s t.lit.0) vs _
    (λ e. absurd (false≢true (sym h ∙ e))) (λ e. get_or-set_same vs t.lit.0 _ false w)

-- all tables leave every literal but their own
pub with_tables_other : (s : Shape) (config vs : List Bool) (ts : List Lut) (l : ℕ) → ((t : Lut) → In ts t → t.lit.0 ≡ l → is_plain s l ≡ true) → value_in (with_tables s config vs ts) l ≡ value_in vs l
with_tables_other s config vs [] l h = refl
with_tables_other s config vs (t ∷ ts) l h =
    with_tables_other s config (with_table s config vs t) ts l (λ u i. h u (inr i)) ∙ with_table_other s config vs t l (h t (inl refl))

-- each leaf of a table has its value before the table is played: it is a regular source, or its literal is below the table's
pub record IsFed (s : Shape) (t : Lut) : Type 0 where
  pub each : (m : ℕ) → In t.leaves m → (is_plain s (2 * m) ≡ true) ⊎ (2 * m < t.lit.0)
