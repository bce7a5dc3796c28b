-- The ends of a net, as the definition of low cuts has them.
use Rattle.flow_label.proofs.Common.{◌≡◌, ℕ, zero, suc, ◌+◌, ◌-◌, ◌<◌, ◌≤◌, List, [], length, subst, inl, inr, arith, ascending_of, FlowNet, IsUpper, IsEnd, IsNet, AreReaders, AreEnds, In-union, union_left, IsAscending-union, IsFlowCut, by_walk, by_search, IsDeep, top, down, IsEndOf, AreEndsOf, IsNearest}
use Rattle.flow_label.proofs.GraphLemmas.{fan_in_below}

module _ (net : FlowNet) (is : IsNet net) (readers : AreReaders net) (p : ℕ) (at : net.height ≡ p + 1) where
  -- upper nodes are those through which a low cut is looked for
  upper_deep : (b v : ℕ) → net.node ≤ v + b → IsUpper net v → IsDeep net.graph net.label net.node p v
  upper_deep b v l (inl e) = top e
  upper_deep zero v l (inr u) = let b : v < net.node = (readers.met v u.0).below in absurd (omega arith)
  upper_deep (suc b) v l (inr u) =
      let m = readers.met v u.0 in
      let up : v < net.reader v = fan_in_below net.graph v (net.reader v) is.normal m.reads in
      down (net.reader v) (upper_deep b (net.reader v) (omega arith) m.upper) m.reads m.live (omega arith)

  deep_upper : {v : ℕ} → IsDeep net.graph net.label net.node p v → IsUpper net v
  deep_upper (top e) = inl e
  deep_upper {v} (down u d f live high) = inr (readers.all v u (deep_upper d) f live, (let h : net.height ≤ net.label v + 1 = omega arith in h))

  end_of : (u : ℕ) → IsEnd net u → IsEndOf net.graph net.label net.node p u
  end_of u e =
      let m = readers.met u e.met in
      record { reader = net.reader u; deep = upper_deep net.node (net.reader u) (omega arith) m.upper; reads = m.reads; live = m.live; low = omega arith }

  is_end : (u : ℕ) → IsEndOf net.graph net.label net.node p u → IsEnd net u
  is_end u e = let l : net.label u < p = e.low in record { met = readers.all u e.reader (deep_upper e.deep) e.reads e.live; low = omega arith }

  ends_are : (ends : List ℕ) → AreEnds net ends → AreEndsOf net.graph net.label net.node p (ascending_of ends)
  ends_are ends are = record {
    ascending = IsAscending-union ends [] tt;
    only = λ u i. elim (In-union ends [] u i) [ inl j ↦ end_of u (are.only u j) | inr b ↦ absurd b ];
    all = λ u e. union_left ends [] u (are.all u (is_end u e));
  }

height_at : (net : FlowNet) → IsNet net → net.height ≡ (net.height - 1) + 1
height_at net is = let h : 2 ≤ net.height = is.high in omega arith

-- few ends are the low cut that is looked for
pub walk_found : (net : FlowNet) → IsNet net → AreReaders net → (k : ℕ) (ends : List ℕ) → AreEnds net ends → length (ascending_of ends) ≤ k → IsFlowCut net.graph k net.label net.node (net.height - 1) (ascending_of ends)
walk_found net is readers k ends are few = by_walk (ends_are net is readers (net.height - 1) (height_at net is) ends are) few

-- and otherwise the nearest least one is
pub search_found : (net : FlowNet) → IsNet net → AreReaders net → (k : ℕ) (ends c : List ℕ) → AreEnds net ends → k < length (ascending_of ends) → IsNearest net.graph k net.node net.height net.label c → IsFlowCut net.graph k net.label net.node (net.height - 1) c
search_found net is readers k ends c are many near =
    by_search (record { ends = ascending_of ends; are = ends_are net is readers (net.height - 1) (height_at net is) ends are; many = many }) (subst (λ h. IsNearest net.graph k net.node h net.label c) (height_at net is) near)
