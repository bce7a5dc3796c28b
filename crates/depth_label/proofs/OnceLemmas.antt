-- A graph with a table of its cuts has one label and one best cut a node.
use Rattle.depth_label.proofs.Common.{◌≡◌, ℕ, zero, suc, ◌<◌, List, sym, ◌∙◌, subst, inl, inr, arith, cases_lt, false≢true, Aig, first_and, node_count, IsAnd, In, row_at, height, height_same, label_of, best_of, AreLabels, IsCutTable, IsAsGood, lower, tie, IsBestCut, HasOneLabelling}
use Rattle.std.proofs.Math.Path.{fun_ext}
use Rattle.cut_sets.proofs.OrderLemmas.{before_trans, before-same}
use Rattle.depth_label.proofs.LabelLemmas.{leaves_below}

module _ (g : Aig) (rows : List (List (List ℕ))) (table : IsCutTable g rows) (f h : ℕ → ℕ) (a : AreLabels g (row_at rows) f) (b : AreLabels g (row_at rows) h) where
  -- node by node, since leaves stand below their node
  once_below : (bound n : ℕ) → n < bound → f n ≡ h n
  once_below zero n l = absurd (omega arith)
  once_below (suc bound) n l = elim (cases_lt n (first_and g)) [
    | inl s ↦ a.sources n s ∙ sym (b.sources n s)
    | inr s ↦ elim (cases_lt n (node_count g)) [
      | inl inside ↦ (
          let and : IsAnd g n = (s, inside) in
          let same : (c : List ℕ) → In (row_at rows n) c → height f c ≡ height h c =
          (λ c i. height_same f h c (λ m j. let w : m < n = leaves_below g rows n table and c m i j in once_below bound m (omega arith))) in
          let x = a.met n and in
          let y = b.met n and in
          let t : height f y.0 ≡ height h y.0 = same y.0 y.1 in omega (arith, same x.0 x.1, a.least n y.0 and y.1, b.least n x.0 and x.1, y.2, x.2))
      | inr past ↦ a.past n past ∙ sym (b.past n past)
    ]
  ]

-- two cuts of which each is as good as the other are the same
good_same : (label : ℕ → ℕ) (c d : List ℕ) → IsAsGood label c d → IsAsGood label d c → c ≡ d
good_same label c d (lower l) (lower m) = absurd (omega arith)
good_same label c d (lower l) (tie e o) = absurd (omega arith)
good_same label c d (tie e o) (lower m) = absurd (omega arith)
good_same label c d (tie e (inl same)) (tie f o) = same
good_same label c d (tie e (inr p)) (tie f (inl same)) = sym same
good_same label c d (tie e (inr p)) (tie f (inr q)) = absurd (false≢true (sym (before-same c) ∙ before_trans c d c p q))

best_same : (label : ℕ → ℕ) (cs : List (List ℕ)) (c d : List ℕ) → IsBestCut label cs c → IsBestCut label cs d → c ≡ d
best_same label cs c d a b = good_same label c d (a.first d b.one) (b.first c a.one)

-- A node has one label, and one best cut.
pub one_labelling : (g : Aig) (rows : List (List (List ℕ))) → IsCutTable g rows → HasOneLabelling g rows
one_labelling g rows table = record {
  once = λ v w a b n. once_below g rows table (label_of v) (label_of w) a.labels b.labels (suc n) n (omega arith);
  best_once = λ v w a b n and.
      let same : label_of v ≡ label_of w = fun_ext (λ m. once_below g rows table (label_of v) (label_of w) a.labels b.labels (suc m) m (omega arith)) in
      best_same (label_of w) (row_at rows n) (best_of v n) (best_of w n) (subst (λ label. IsBestCut label (row_at rows n) (best_of v n)) same (a.best n and)) (b.best n and);
}
