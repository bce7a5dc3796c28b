-- A worked example: a multiplexer whose choice is a parameter.
--
-- Its sources are the inputs 1 and 2 and the parameter 3. Node 4 is input 1 where the parameter is true, node 5 is input 2 where
-- it is false, and node 6 is the product of the complements of both.
use Rattle.cut_enum.proofs.Common.{◌≡◌, ℕ, zero, suc, ◌+◌, ◌-◌, ◌/◌, ◌<◌, ◌≤◌, List, [], ◌∷◌, Some, refl, sym, ap, ◌∙◌, subst, inl, inr, arith, slice_get, same_Some, none-some, Aig, first_and, IsNormal, AreNormal, Regular, Parameter, Pair, In, AreMinimal, AreRows, row_at, IsRow}
use Rattle.cut_enum.proofs.RowLemmas.{AreRows-none, AreRows-push, IsRow-node}

abbrev pub pair : ℕ → ℕ → Pair
pair a b = record { x = record { 0 = a }; y = record { 0 = b } }

abbrev pub mux : Aig
mux = record { kinds = Regular ∷ Regular ∷ Parameter ∷ []; pairs = pair 2 6 ∷ pair 4 7 ∷ pair 9 11 ∷ []; max = 3 }

pair_same : (p : Pair) (a b n : ℕ) → pair a b ≡ p → IsNormal n (pair a b) → IsNormal n p
pair_same p a b n e is = subst (λ q. IsNormal n q) e is

mux_each : (i : ℕ) (p : Pair) → slice_get (pair 2 6 ∷ pair 4 7 ∷ pair 9 11 ∷ []) i ≡ Some p → IsNormal (4 + i) p
mux_each zero p e = pair_same p 2 6 4 (same_Some (pair 2 6) p e) (record { no_constant = omega arith; ordered = omega arith; below = omega arith })
mux_each (suc zero) p e = pair_same p 4 7 5 (same_Some (pair 4 7) p e) (record { no_constant = omega arith; ordered = omega arith; below = omega arith })
mux_each (suc (suc zero)) p e = pair_same p 9 11 6 (same_Some (pair 9 11) p e) (record { no_constant = omega arith; ordered = omega arith; below = omega arith })
mux_each (suc (suc (suc i))) p e = absurd (none-some p e)

-- the first literal of a pair
first_is : (p : Pair) (a b : ℕ) → Some (pair a b) ≡ Some p → p.x.0 ≡ a
first_is p a b e = sym (ap (λ (q : Pair). q.x.0) (same_Some (pair a b) p e))

-- which pair has this first literal
place_of : (i : ℕ) (p : Pair) → slice_get (pair 2 6 ∷ pair 4 7 ∷ pair 9 11 ∷ []) i ≡ Some p → i ≡ (p.x.0 - 2) / 2 - (p.x.0 / 9)
place_of zero p e = let f : p.x.0 ≡ 2 = first_is p 2 6 e in omega arith
place_of (suc zero) p e = let f : p.x.0 ≡ 4 = first_is p 4 7 e in omega arith
place_of (suc (suc zero)) p e = let f : p.x.0 ≡ 9 = first_is p 9 11 e in omega arith
place_of (suc (suc (suc i))) p e = absurd (none-some p e)

pub mux_normal : AreNormal (first_and mux) mux.pairs
mux_normal = record { each = mux_each; once = λ i j p e f. place_of i p e ∙ sym (place_of j p f) }

-- the minimal cuts of its nodes, of at most two leaves
abbrev pub mux_rows : List (List (List ℕ))
mux_rows = [] ∷ [] ∷ [] ∷ [] ∷ ((1 ∷ []) ∷ []) ∷ ((2 ∷ []) ∷ []) ∷ ((1 ∷ 2 ∷ []) ∷ (1 ∷ 5 ∷ []) ∷ (2 ∷ 4 ∷ []) ∷ (4 ∷ 5 ∷ []) ∷ []) ∷ []

source_row : (n : ℕ) → n < 4 → IsRow mux 2 n []
source_row n l = record { node = λ and. absurd (let a : 4 ≤ n = and.0 in omega arith); source = λ _. refl }

rows_four : AreRows mux 2 4 ([] ∷ [] ∷ [] ∷ [] ∷ [])
rows_four =
    let zero_is = AreRows-push mux 2 0 [] [] (AreRows-none mux 2) (source_row 0 (omega arith)) (omega arith) (omega arith) in
    let one_is = AreRows-push mux 2 1 ([] ∷ []) [] zero_is (source_row 1 (omega arith)) (omega arith) (omega arith) in
    let two_is = AreRows-push mux 2 2 ([] ∷ [] ∷ []) [] one_is (source_row 2 (omega arith)) (omega arith) (omega arith) in
    AreRows-push mux 2 3 ([] ∷ [] ∷ [] ∷ []) [] two_is (source_row 3 (omega arith)) (omega arith) (omega arith)

rows_five : AreRows mux 2 5 ([] ∷ [] ∷ [] ∷ [] ∷ ((1 ∷ []) ∷ []) ∷ [])
rows_five =
    let rows : List (List (List ℕ)) = [] ∷ [] ∷ [] ∷ [] ∷ [] in
    let row : List (List ℕ) = (1 ∷ []) ∷ [] in
    AreRows-push mux 2 4 rows row rows_four (IsRow-node mux 2 4 (pair 2 6) rows row mux_normal (omega arith) (omega arith) refl (mux_each 0 (pair 2 6) refl) rows_four refl) (omega arith) (omega arith)

rows_six : AreRows mux 2 6 ([] ∷ [] ∷ [] ∷ [] ∷ ((1 ∷ []) ∷ []) ∷ ((2 ∷ []) ∷ []) ∷ [])
rows_six =
    let rows : List (List (List ℕ)) = [] ∷ [] ∷ [] ∷ [] ∷ ((1 ∷ []) ∷ []) ∷ [] in
    let row : List (List ℕ) = (2 ∷ []) ∷ [] in
    AreRows-push mux 2 5 rows row rows_five (IsRow-node mux 2 5 (pair 4 7) rows row mux_normal (omega arith) (omega arith) refl (mux_each 1 (pair 4 7) refl) rows_five refl) (omega arith) (omega arith)

-- The table of its minimal cuts.
pub mux_table : AreRows mux 2 7 mux_rows
mux_table =
    let rows : List (List (List ℕ)) = [] ∷ [] ∷ [] ∷ [] ∷ ((1 ∷ []) ∷ []) ∷ ((2 ∷ []) ∷ []) ∷ [] in
    let row : List (List ℕ) = (1 ∷ 2 ∷ []) ∷ (1 ∷ 5 ∷ []) ∷ (2 ∷ 4 ∷ []) ∷ (4 ∷ 5 ∷ []) ∷ [] in
    AreRows-push mux 2 6 rows row rows_six (IsRow-node mux 2 6 (pair 9 11) rows row mux_normal (omega arith) (omega arith) refl (mux_each 2 (pair 9 11) refl) rows_six refl) (omega arith) (omega arith)

-- The parameter is no leaf: node 4 has the one cut of input 1.
pub mux_first : AreMinimal mux 2 4 ((1 ∷ []) ∷ [])
mux_first = mux_table.each 4 (omega arith) (omega arith, omega arith)

-- Node 6 has four cuts, in this order: none is within another.
pub mux_last : AreMinimal mux 2 6 ((1 ∷ 2 ∷ []) ∷ (1 ∷ 5 ∷ []) ∷ (2 ∷ 4 ∷ []) ∷ (4 ∷ 5 ∷ []) ∷ [])
mux_last = mux_table.each 6 (omega arith) (omega arith, omega arith)

-- what holds of each cut of node 6
pub last_cuts : (P : List ℕ → Type 0) → P (1 ∷ 2 ∷ []) → P (1 ∷ 5 ∷ []) → P (2 ∷ 4 ∷ []) → P (4 ∷ 5 ∷ []) → (c : List ℕ) → In (row_at mux_rows 6) c → P c
last_cuts P a b d e c (inl q) = subst P (sym q) a
last_cuts P a b d e c (inr (inl q)) = subst P (sym q) b
last_cuts P a b d e c (inr (inr (inl q))) = subst P (sym q) d
last_cuts P a b d e c (inr (inr (inr (inl q)))) = subst P (sym q) e
last_cuts P a b d e c (inr (inr (inr (inr q)))) = absurd q
