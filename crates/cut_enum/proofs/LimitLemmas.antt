-- A graph has one limit at most, and no table where it has one.
use Rattle.cut_enum.proofs.Common.{◌≡◌, ℕ, suc, ◌+◌, ◌<◌, ◌≤◌, List, [], ◌∷◌, length, sum_by, refl, sym, ap, ◌∙◌, subst, inl, inr, arith, ◌⊎◌, Result, Ok, Err, IfOk, IfErr, sum_by-cons, cases_lt, cases_order, Aig, first_and, node_count, IsAnd, MOST_OF_A_NODE, MOST_OF_A_TABLE, AreMinimal, row_at, AreRows, OrMemory, refusal_of, Reaches, IsLimit, CutErr, NodeCuts, TotalCuts, Memory, same_ordered}

-- a node has one list of its minimal cuts
pub minimal_once : (g : Aig) (k n : ℕ) (cs ds : List (List ℕ)) → AreMinimal g k n cs → AreMinimal g k n ds → cs ≡ ds
minimal_once g k n cs ds a b = same_ordered cs ds a.ordered b.ordered (λ e i. b.all e (a.only e i)) (λ e i. a.all e (b.only e i))

-- two tables of one graph agree where both have a row
pub same_row : (g : Aig) (k m n i : ℕ) (rows more : List (List (List ℕ))) → n ≤ node_count g → m ≤ n → AreRows g k m rows → AreRows g k n more → i < m → row_at rows i ≡ row_at more i
same_row g k m n i rows more within le a b l = elim (cases_lt i (first_and g)) [
  | inl s ↦ a.sources i s ∙ sym (b.sources i s)
  | inr s ↦ (let and : IsAnd g i = (s, omega arith) in minimal_once g k i (row_at rows i) (row_at more i) (a.each i l and) (b.each i (omega arith) and))
]

-- the rows up to a row, and it, are no more than all
sum_within : (rows more : List (List (List ℕ))) (cuts : List (List ℕ)) → ((i : ℕ) → i < length rows → row_at rows i ≡ row_at more i) → length rows < length more → row_at more (length rows) ≡ cuts
    → sum_by length rows + length cuts ≤ sum_by length more
sum_within [] (r ∷ more) cuts same l e =
    let q : length r ≡ length cuts = ap length e in
    let z : sum_by (λ (q : List (List ℕ)). length q) [] ≡ 0 = refl in omega (arith, sum_by-cons length r more)
sum_within (q ∷ rows) (r ∷ more) cuts same l e =
    omega (arith, sum_by-cons length q rows, sum_by-cons length r more, ap length (same 0 (omega arith)), sum_within rows more cuts (λ i k. same (suc i) (omega arith)) (omega arith) e)
sum_within rows [] cuts same l e = absurd (omega arith)

-- what a table with a row of a node says of the node's cuts and of those up to it
pub record IsWithin (rows : List (List (List ℕ))) (cuts : List (List ℕ)) : Type 0 where
  pub node : length cuts ≤ MOST_OF_A_NODE
  pub total : sum_by length rows + length cuts ≤ MOST_OF_A_TABLE

reached_within : (g : Aig) (k n m : ℕ) (rows more : List (List (List ℕ))) (cuts : List (List ℕ)) → m ≤ node_count g → n < m → Reaches g k n rows cuts → AreRows g k m more → IsWithin rows cuts
reached_within g k n m rows more cuts within l r are =
    let e : row_at more n ≡ cuts = minimal_once g k n (row_at more n) cuts (are.each n l r.node) r.are in
    let q : length (row_at more n) ≡ length cuts = ap length e in
    let s : sum_by length rows + length cuts ≤ sum_by length more =
    sum_within rows more cuts (λ i h. same_row g k n m i rows more within (omega arith) r.below are (omega arith)) (omega arith) (ap (λ i. row_at more i) r.below.count ∙ e) in
    record { node = omega arith; total = omega arith }

-- the node at which a limit is met, and what is too much there
record IsOver (g : Aig) (k : ℕ) (n : ℕ) (rows : List (List (List ℕ))) (cuts : List (List ℕ)) : Type 0 where
  reaches : Reaches g k n rows cuts
  over : IsWithin rows cuts → ⊥

over_node : (g : Aig) (k n : ℕ) (rows : List (List (List ℕ))) (cuts : List (List ℕ)) → Reaches g k n rows cuts → MOST_OF_A_NODE < length cuts → IsOver g k n rows cuts
over_node g k n rows cuts r o = record { reaches = r; over = λ w. (let f : length cuts ≤ MOST_OF_A_NODE = w.node in absurd (omega arith)) }

over_total : (g : Aig) (k n : ℕ) (rows : List (List (List ℕ))) (cuts : List (List ℕ)) → Reaches g k n rows cuts → MOST_OF_A_TABLE < sum_by length rows + length cuts → IsOver g k n rows cuts
over_total g k n rows cuts r o = record { reaches = r; over = λ w. (let f : sum_by length rows + length cuts ≤ MOST_OF_A_TABLE = w.total in absurd (omega arith)) }

-- no limit is met below another
not_below : (g : Aig) (k n m : ℕ) (rows more : List (List (List ℕ))) (cuts other : List (List ℕ)) → IsOver g k n rows cuts → IsOver g k m more other → n < m → ⊥
not_below g k n m rows more cuts other a b l = let inside : m < node_count g = b.reaches.node.1 in a.over (reached_within g k n m rows more cuts (omega arith) l a.reaches b.reaches.below)

one_node : (g : Aig) (k n m : ℕ) (rows more : List (List (List ℕ))) (cuts other : List (List ℕ)) → IsOver g k n rows cuts → IsOver g k m more other → n ≡ m
one_node g k n m rows more cuts other a b = elim (cases_order n m) [
  | inl e ↦ e
  | inr h ↦ elim h [ inl l ↦ absurd (not_below g k n m rows more cuts other a b l) | inr l ↦ absurd (not_below g k m n more rows other cuts b a l) ]
]

-- at one node, either the node has too many cuts or the sum is too large
not_both : (g : Aig) (k n m : ℕ) (rows more : List (List (List ℕ))) (cuts other : List (List ℕ)) → IsOver g k n rows cuts → IsOver g k m more other → MOST_OF_A_NODE < length cuts → length other ≤ MOST_OF_A_NODE → ⊥
not_both g k n m rows more cuts other a b l f =
    let e : n ≡ m = one_node g k n m rows more cuts other a b in
    let q : length cuts ≡ length other = ap length (minimal_once g k m cuts other (subst (λ i. AreMinimal g k i cuts) e a.reaches.are) b.reaches.are) in absurd (omega arith)

-- Two limits of one graph and k are equal.
pub limit_once : (g : Aig) (k : ℕ) (e f : CutErr) → IsLimit g k e → IsLimit g k f → e ≡ f
limit_once g k Memory f a b = absurd a
limit_once g k (NodeCuts n) (NodeCuts m) a b = ap (λ i. NodeCuts i) (one_node g k n m a.0 b.0 a.1 b.1 (over_node g k n a.0 a.1 a.2 a.3) (over_node g k m b.0 b.1 b.2 b.3))
limit_once g k (NodeCuts n) (TotalCuts m) a b = absurd (not_both g k n m a.0 b.0 a.1 b.1 (over_node g k n a.0 a.1 a.2 a.3) (over_total g k m b.0 b.1 b.2 b.4) a.3 b.3)
limit_once g k (TotalCuts n) (NodeCuts m) a b = absurd (not_both g k m n b.0 a.0 b.1 a.1 (over_node g k m b.0 b.1 b.2 b.3) (over_total g k n a.0 a.1 a.2 a.4) b.3 a.3)
limit_once g k (TotalCuts n) (TotalCuts m) a b = ap (λ i. TotalCuts i) (one_node g k n m a.0 b.0 a.1 b.1 (over_total g k n a.0 a.1 a.2 a.4) (over_total g k m b.0 b.1 b.2 b.4))
limit_once g k e Memory a b = absurd b

-- Where a limit is met there is no table.
pub limit_excludes : (g : Aig) (k : ℕ) (e : CutErr) (rows : List (List (List ℕ))) → IsLimit g k e → AreRows g k (node_count g) rows → ⊥
limit_excludes g k Memory rows a are = a
limit_excludes g k (NodeCuts n) rows a are = (over_node g k n a.0 a.1 a.2 a.3).over (reached_within g k n (node_count g) a.0 rows a.1 (omega arith) a.2.node.1 a.2 are)
limit_excludes g k (TotalCuts n) rows a are = (over_total g k n a.0 a.1 a.2 a.4).over (reached_within g k n (node_count g) a.0 rows a.1 (omega arith) a.2.node.1 a.2 are)

-- an answer that is a table or a limit is the limit that is met, or tells that memory ran out
pub limit_answer : (g : Aig) (k : ℕ) (r : Result (List (List (List ℕ))) CutErr) (e : CutErr) → IfOk r (λ rows. AreRows g k (node_count g) rows) → IfErr r (OrMemory refusal_of (λ f. IsLimit g k f))
    → IsLimit g k e → (r ≡ Err e) ⊎ (r ≡ Err Memory)
limit_answer g k (Ok rows) e ok err is = absurd (limit_excludes g k e rows is ok)
limit_answer g k (Err Memory) e ok err is = inr refl
limit_answer g k (Err (NodeCuts n)) e ok err is = inl (ap (λ f. Err f) (limit_once g k (NodeCuts n) e err is))
limit_answer g k (Err (TotalCuts n)) e ok err is = inl (ap (λ f. Err f) (limit_once g k (TotalCuts n) e err is))
