-- Labels that are least over the minimal cuts are least over all cuts.
use Rattle.depth_label.proofs.Common.{ℕ, ◌≤◌, List, arith, Aig, first_and, node_count, IsAnd, AreNormal, AreMinimal, AreRows, row_at, minimal_within, height, AreLabels, AreLeastHeights}
use Rattle.cut_sets.proofs.HeightLemmas.{height_within}

-- A cut contains a minimal one, which is no higher.
pub labels_least_heights : (g : Aig) → AreNormal (first_and g) g.pairs → (k : ℕ) (cuts : ℕ → List (List ℕ)) (label : ℕ → ℕ) → ((n : ℕ) → IsAnd g n → AreMinimal g k n (cuts n)) → AreLabels g cuts label → AreLeastHeights g k label
labels_least_heights g normal k cuts label minimal labels = record {
  sources = labels.sources;
  past = labels.past;
  least = λ n c and cut.
      let r = minimal_within g normal k n c cut in
      let a : label n ≤ height label r.0 = labels.least n r.0 and ((minimal n and).all r.0 r.1) in
      let b : height label r.0 ≤ height label c = height_within label r.0 c r.2 in omega arith;
  met = λ n and. let best = labels.met n and in (best.0, ((minimal n and).only best.0 best.1).cut, best.2);
}

-- so are those of a table of all minimal cuts
pub rows_least_heights : (g : Aig) → AreNormal (first_and g) g.pairs → (k : ℕ) (rows : List (List (List ℕ))) (label : ℕ → ℕ) → AreRows g k (node_count g) rows → AreLabels g (row_at rows) label → AreLeastHeights g k label
rows_least_heights g normal k rows label are labels = labels_least_heights g normal k (row_at rows) label (λ m and. are.each m and.1 and) labels
