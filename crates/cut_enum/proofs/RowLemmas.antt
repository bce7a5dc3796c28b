-- The rows of a table, one node after another.
use Rattle.cut_enum.proofs.Common.{◌≡◌, ℕ, ◌+◌, ◌-◌, ◌/◌, ◌<◌, ◌≤◌, cond, eqb, ltb, List, [], ◌∷◌, ◌++◌, length, sum_by, get_or, Option, Some, None, refl, sym, ap, ◌∙◌, subst, inl, inr, ◌⊎◌, arith, length-append, slice_get, slice_get-get_or, none-some, get_or_push, get_or_past, sum_by_push, eqb-true, eqb-false, ltb-true, ltb-false, cases_lt, cases_order, Aig, first_and, node_count, IsAnd, pair_of, IsNormal, AreNormal, Regular, Parameter, Pair, MOST_OF_A_NODE, MOST_OF_A_TABLE, merged, IsNode, AreMinimal, constant, parameter, row_at, AreRows, AreApart, IsRow, IsTooMany, front_of, source_front, with_own, Reaches, IsLimit, NodeCuts, TotalCuts, Memory, CutErr, OrMemory, refusal_of, choose, rules}
use Rattle.std.proofs.Math.ListN.{get_or-append}
use Rattle.aig_core.specs.declared.lit.Kind.{Kind}
use Rattle.cut_enum.proofs.CutLemmas.{AreApart-front, IsFront, IsFront-node, IsFront-free, IsFront-regular, AreMinimal-merged}

source_ok : (g : Aig) (k m : ℕ) (o : Option Kind) → 1 ≤ m → m - 1 < length g.kinds → slice_get g.kinds (m - 1) ≡ o → IsFront g k m (source_front m o)
source_ok g k m (Some Regular) a b e = IsFront-regular g k m (record { above = a; is = e })
source_ok g k m (Some Parameter) a b e = IsFront-free g k m (parameter (record { above = a; is = e }))
source_ok g k m None a b e = absurd (none-some (get_or g.kinds (m - 1) Regular) (sym e ∙ slice_get-get_or g.kinds (m - 1) Regular b))

-- the front that the code makes is one
pub IsFront-front_of : (g : Aig) (k m : ℕ) (row : List (List ℕ)) → AreNormal (first_and g) g.pairs → m < node_count g → (IsAnd g m → AreMinimal g k m row) → IsFront g k m (front_of g m row)
IsFront-front_of g k m row normal below ok =
    choose (λ s. IsFront g k m s) (eqb m 0) ([] ∷ []) (cond (ltb m (first_and g)) (source_front m (slice_get g.kinds (m - 1))) (with_own m row))
    (λ t. IsFront-free g k m (constant (eqb-true m 0 t)))
    (λ t. let some : m ≡ 0 → ⊥ = eqb-false m 0 t in
    choose (λ s. IsFront g k m s) (ltb m (first_and g)) (source_front m (slice_get g.kinds (m - 1))) (with_own m row)
    (λ u. let l : m < first_and g = ltb-true m (first_and g) u in source_ok g k m (slice_get g.kinds (m - 1)) (omega arith) (omega arith) refl)
    (λ u. let l : first_and g ≤ m = ltb-false m (first_and g) u in let and : IsAnd g m = (l, below) in IsFront-node g k m row normal and (ok and)))

-- none of what a node hands on is within another
pub front_apart_at : (g : Aig) (k n m : ℕ) (rows : List (List (List ℕ))) (row cs : List (List ℕ)) → AreNormal (first_and g) g.pairs → n < node_count g → AreRows g k n rows → m < n → row ≡ row_at rows m → cs ≡ front_of g m row → AreApart cs
front_apart_at g k n m rows row cs normal below ok l r e =
    rw (e, r) (AreApart-front g k m (front_of g m (row_at rows m)) (IsFront-front_of g k m (row_at rows m) normal (omega arith) (ok.each m l)))

-- the row of an AND node
pub row_minimal : (g : Aig) (k n : ℕ) (p : Pair) (rows : List (List (List ℕ))) → AreNormal (first_and g) g.pairs → n < node_count g → IsNode g p n → IsNormal n p → AreRows g k n rows
    → AreMinimal g k n (merged k (front_of g (p.x.0 / 2) (row_at rows (p.x.0 / 2))) (front_of g (p.y.0 / 2) (row_at rows (p.y.0 / 2))))
row_minimal g k n p rows all below node normal ok =
    AreMinimal-merged g k n p (front_of g (p.x.0 / 2) (row_at rows (p.x.0 / 2))) (front_of g (p.y.0 / 2) (row_at rows (p.y.0 / 2))) node normal
    (IsFront-front_of g k (p.x.0 / 2) (row_at rows (p.x.0 / 2)) all (omega arith) (ok.each (p.x.0 / 2) (omega arith)))
    (IsFront-front_of g k (p.y.0 / 2) (row_at rows (p.y.0 / 2)) all (omega arith) (ok.each (p.y.0 / 2) (omega arith)))

-- no row
pub AreRows-none : (g : Aig) (k : ℕ) → AreRows g k 0 []
AreRows-none g k = record { count = refl; sources = λ m l. refl; each = λ m l. absurd (omega arith); few = λ m. omega arith; total = omega arith }

row_push_same : (rows : List (List (List ℕ))) (row : List (List ℕ)) (n : ℕ) → length rows ≡ n → row_at (rows ++ row ∷ []) n ≡ row
row_push_same rows row n e = get_or_push rows row [] n e

row_push_old : (rows : List (List (List ℕ))) (row : List (List ℕ)) (m : ℕ) → m < length rows → row_at (rows ++ row ∷ []) m ≡ row_at rows m
row_push_old rows row m l = get_or-append rows (row ∷ []) [] m l

each_push : (g : Aig) (k n : ℕ) (rows : List (List (List ℕ))) (row : List (List ℕ)) → AreRows g k n rows → (IsAnd g n → AreMinimal g k n row)
    → (m : ℕ) → m < n + 1 → IsAnd g m → (m < n) ⊎ (n ≤ m) → AreMinimal g k m (row_at (rows ++ row ∷ []) m)
each_push g k n rows row ok min m l and (inl h) = let c : length rows ≡ n = ok.count in rw (row_push_old rows row m (omega arith)) (ok.each m h and)
each_push g k n rows row ok min m l and (inr h) = grind (arith, row_push_same)

few_push : (g : Aig) (k n : ℕ) (rows : List (List (List ℕ))) (row : List (List ℕ)) → AreRows g k n rows → length row ≤ MOST_OF_A_NODE
    → (m : ℕ) → (m ≡ n) ⊎ ((m < n) ⊎ (n < m)) → length (row_at (rows ++ row ∷ []) m) ≤ MOST_OF_A_NODE
few_push g k n rows row ok few m (inl h) = let c : length rows ≡ n = ok.count in rw (row_push_same rows row m (omega arith)) few
few_push g k n rows row ok few m (inr (inl h)) = let c : length rows ≡ n = ok.count in rw (row_push_old rows row m (omega arith)) (ok.few m)
few_push g k n rows row ok few m (inr (inr h)) = grind (arith, length-append, get_or_past)

sources_push : (g : Aig) (k n : ℕ) (rows : List (List (List ℕ))) (row : List (List ℕ)) → AreRows g k n rows → (n < first_and g → row ≡ [])
    → (m : ℕ) → m < first_and g → (m ≡ n) ⊎ ((m < n) ⊎ (n < m)) → row_at (rows ++ row ∷ []) m ≡ []
sources_push g k n rows row ok none m l (inl h) = let c : length rows ≡ n = ok.count in row_push_same rows row m (omega arith) ∙ none (omega arith)
sources_push g k n rows row ok none m l (inr (inl h)) = let c : length rows ≡ n = ok.count in row_push_old rows row m (omega arith) ∙ ok.sources m l
sources_push g k n rows row ok none m l (inr (inr h)) = grind (arith, length-append, get_or_past)

-- one more row
pub AreRows-push : (g : Aig) (k n : ℕ) (rows : List (List (List ℕ))) (row : List (List ℕ)) → AreRows g k n rows → IsRow g k n row
    → length row ≤ MOST_OF_A_NODE → sum_by length rows + length row ≤ MOST_OF_A_TABLE → AreRows g k (n + 1) (rows ++ row ∷ [])
AreRows-push g k n rows row ok is few total = record {
  count = (let e : length rows ≡ n = ok.count in omega (arith, length-append rows (row ∷ [])));
  sources = λ m l. sources_push g k n rows row ok is.source m l (cases_order m n);
  each = λ m l and. each_push g k n rows row ok is.node m l and (cases_lt m n);
  few = λ m. few_push g k n rows row ok few m (cases_order m n);
  total = rw (sum_by_push length rows row) total;
}

-- the row of an AND node, as the code makes it
pub IsRow-node : (g : Aig) (k n : ℕ) (p : Pair) (rows : List (List (List ℕ))) (row : List (List ℕ)) → AreNormal (first_and g) g.pairs → first_and g ≤ n → n < node_count g → pair_of g n ≡ Some p → IsNormal n p → AreRows g k n rows
    → row ≡ merged k (front_of g (p.x.0 / 2) (row_at rows (p.x.0 / 2))) (front_of g (p.y.0 / 2) (row_at rows (p.y.0 / 2))) → IsRow g k n row
IsRow-node g k n p rows row all above below is normal ok e = search (rules, row_minimal)

-- a row with a cut is an AND node's
row_node : (g : Aig) (k n : ℕ) (row : List (List ℕ)) → n < node_count g → IsRow g k n row → 0 < length row → IsAnd g n
row_node g k n row below ok some = elim (cases_lt n (first_and g)) [ inl l ↦ absurd (let e : length row ≡ 0 = ap length (ok.source l) in omega arith) | inr l ↦ (l, below) ]

-- a node that is reached with its row
pub reaches : (g : Aig) (k n : ℕ) (rows : List (List (List ℕ))) (row : List (List ℕ)) → n < node_count g → AreRows g k n rows → IsRow g k n row → 0 < length row → Reaches g k n rows row
reaches g k n rows row below ok is some = let and : IsAnd g n = row_node g k n row below is some in record { node = and; below = ok; are = is.node and }

-- a node whose cuts are too many, as the code makes them
pub limit_node : (g : Aig) (k n : ℕ) (p : Pair) (rows : List (List (List ℕ))) → AreNormal (first_and g) g.pairs → first_and g ≤ n → n < node_count g → pair_of g n ≡ Some p → IsNormal n p → AreRows g k n rows
    → MOST_OF_A_NODE < length (merged k (front_of g (p.x.0 / 2) (row_at rows (p.x.0 / 2))) (front_of g (p.y.0 / 2) (row_at rows (p.y.0 / 2)))) → IsLimit g k (NodeCuts n)
limit_node g k n p rows all above below is normal ok over =
    (rows, _, reaches g k n rows _ below ok (IsRow-node g k n p rows _ all above below is normal ok refl) (omega arith), over)

-- a node that has too many of some cuts has too many of more
pub too_many_more : (n : ℕ) (xs ys : List (List ℕ)) (e : CutErr) → length xs ≤ length ys → OrMemory refusal_of (λ f. IsTooMany n xs f) e → OrMemory refusal_of (λ f. IsTooMany n ys f) e
too_many_more n xs ys Memory l h = tt
too_many_more n xs ys e l h = let o : MOST_OF_A_NODE < length xs = h.over in record { is = h.is; over = omega arith }

-- the refusal of a node, by its own words
pub too_many_limit : (g : Aig) (k n : ℕ) (cuts : List (List ℕ)) (e : CutErr) → (MOST_OF_A_NODE < length cuts → IsLimit g k (NodeCuts n)) → OrMemory refusal_of (λ f. IsTooMany n cuts f) e → OrMemory refusal_of (λ f. IsLimit g k f) e
too_many_limit g k n cuts (NodeCuts m) limit h = subst (λ f. IsLimit g k f) (sym h.is) (limit h.over)
too_many_limit g k n cuts (TotalCuts m) limit h = grind arith
too_many_limit g k n cuts Memory limit h = tt
