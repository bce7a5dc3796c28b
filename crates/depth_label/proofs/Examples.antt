-- A worked example: the labels of the multiplexer whose choice is a parameter.
use Rattle.depth_label.proofs.Common.{◌≡◌, ℕ, zero, suc, ◌<◌, ◌≤◌, List, [], ◌∷◌, refl, sym, subst, inl, inr, arith, get_or_past, IsAnd, In, row_at, height, LabelsValue, label_of, best_of, IsAsGood, lower, tie, IsBestCut, AreLabelled}
use Rattle.cut_enum.proofs.Examples.{mux, mux_rows, last_cuts}

-- its AND nodes are 4, 5 and 6
pub mux_nodes : (P : ℕ → Type 0) → P 4 → P 5 → P 6 → (n : ℕ) → IsAnd mux n → P n
mux_nodes P a b c zero and = absurd (let l : 4 ≤ 0 = and.0 in omega arith)
mux_nodes P a b c (suc zero) and = absurd (let l : 4 ≤ 1 = and.0 in omega arith)
mux_nodes P a b c (suc (suc zero)) and = absurd (let l : 4 ≤ 2 = and.0 in omega arith)
mux_nodes P a b c (suc (suc (suc zero))) and = absurd (let l : 4 ≤ 3 = and.0 in omega arith)
mux_nodes P a b c (suc (suc (suc (suc zero)))) and = a
mux_nodes P a b c (suc (suc (suc (suc (suc zero))))) and = b
mux_nodes P a b c (suc (suc (suc (suc (suc (suc zero)))))) and = c
mux_nodes P a b c (suc (suc (suc (suc (suc (suc (suc n))))))) and = absurd (let l : suc (suc (suc (suc (suc (suc (suc n)))))) < 7 = and.1 in omega arith)

-- every AND node has label 1: node 6 too, since its parameters cost nothing
abbrev pub mux_labels : LabelsValue
mux_labels = record {
  labels = 0 ∷ 0 ∷ 0 ∷ 0 ∷ 1 ∷ 1 ∷ 1 ∷ [];
  best = [] ∷ [] ∷ [] ∷ [] ∷ (1 ∷ []) ∷ (2 ∷ []) ∷ (1 ∷ 2 ∷ []) ∷ [];
}

source_label : (n : ℕ) → n < 4 → label_of mux_labels n ≡ 0
source_label zero l = refl
source_label (suc zero) l = refl
source_label (suc (suc zero)) l = refl
source_label (suc (suc (suc zero))) l = refl
source_label (suc (suc (suc (suc n)))) l = absurd (omega arith)

only_cut : (P : List ℕ → Type 0) (d : List ℕ) → P d → (c : List ℕ) → In (d ∷ []) c → P c
only_cut P d p c (inl q) = subst P (sym q) p
only_cut P d p c (inr q) = absurd q

least_label : (n : ℕ) → IsAnd mux n → (c : List ℕ) → In (row_at mux_rows n) c → label_of mux_labels n ≤ height (label_of mux_labels) c
least_label =
    mux_nodes (λ n. (c : List ℕ) → In (row_at mux_rows n) c → label_of mux_labels n ≤ height (label_of mux_labels) c)
    (only_cut (λ c. 1 ≤ height (label_of mux_labels) c) (1 ∷ []) (omega arith)) (only_cut (λ c. 1 ≤ height (label_of mux_labels) c) (2 ∷ []) (omega arith))
    (last_cuts (λ c. 1 ≤ height (label_of mux_labels) c) (omega arith) (omega arith) (omega arith) (omega arith))

-- the best cut of each node: the lowest of node 6 is that of the two inputs
best_label : (n : ℕ) → IsAnd mux n → IsBestCut (label_of mux_labels) (row_at mux_rows n) (best_of mux_labels n)
best_label =
    let label : ℕ → ℕ = label_of mux_labels in
    mux_nodes (λ n. IsBestCut (label_of mux_labels) (row_at mux_rows n) (best_of mux_labels n))
    (record { one = inl refl; first = only_cut (λ d. IsAsGood label (1 ∷ []) d) (1 ∷ []) (tie refl (inl refl)) })
    (record { one = inl refl; first = only_cut (λ d. IsAsGood label (2 ∷ []) d) (2 ∷ []) (tie refl (inl refl)) })
    (record { one = inl refl; first = last_cuts (λ d. IsAsGood label (1 ∷ 2 ∷ []) d) (tie refl (inl refl)) (lower (omega arith)) (lower (omega arith)) (lower (omega arith)) })

pub mux_labelled : AreLabelled mux mux_rows mux_labels
mux_labelled = record {
  labels = record {
    sources = source_label;
    past = λ n l. get_or_past mux_labels.labels n 0 l;
    least = λ n c and i. least_label n and c i;
    met = λ n and. (best_of mux_labels n, (best_label n and).one, mux_nodes (λ m. label_of mux_labels m ≡ height (label_of mux_labels) (best_of mux_labels m)) refl refl refl n and);
  };
  best = best_label;
  met = λ n and. mux_nodes (λ m. label_of mux_labels m ≡ height (label_of mux_labels) (best_of mux_labels m)) refl refl refl n and;
}
