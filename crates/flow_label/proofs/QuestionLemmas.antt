-- What the outcome of a search means for the cuts of the node.
use Rattle.flow_label.proofs.Common.{ℕ, ◌+◌, ◌-◌, ◌<◌, ◌≤◌, List, length, sym, subst, arith, Aig, SiteValue, IsNet, AreReaders, net_of, AreLinks, label_at, IsLowCut, IsHigh, IsBarrier, ascending_of, height_le, IsNearest, FlowNet, AreEnds, IsFlowCut, MatchOption, IfSome, Option, Some, None}
use Rattle.flow_label.specs.Barriers.{IsAnswer}
use Rattle.flow_label.proofs.EndLemmas.{search_found}
use Rattle.flow_label.proofs.NearestLemmas.{blocked_nearest}

-- where each cut is high, there is no low cut
pub low_high : (g : Aig) (k n h : ℕ) (label : ℕ → ℕ) (c : List ℕ) → 2 ≤ h → IsHigh g k n h label → IsLowCut g k n h label c → ⊥
low_high g k n h label c two high low =
    absurd (omega (arith, high.high c low.cut, height_le label c (h - 2) (λ m i. let l : label m + 1 < h = low.low m i in omega arith)))

-- what a blocked search has met and not passed is the nearest least low cut
pub barrier_nearest : (site : SiteValue) (owners starts kept : List ℕ) (k : ℕ) → IsNet (net_of site) → AreReaders (net_of site) → AreLinks site owners starts → length starts ≤ k → IsBarrier site owners kept
    → IsNearest site.graph k site.node site.height (label_at site.labels) (ascending_of kept)
barrier_nearest site owners starts kept k net readers links few b =
    subst (λ xs. IsNearest site.graph k site.node site.height (label_at site.labels) (ascending_of xs)) (sym b.is) (blocked_nearest site owners starts b.queue b.backs b.passed k net readers links b.blocked b.tight few)

-- the nearest least low cut is an answer
pub nearest_answer : (g : Aig) (k n h : ℕ) (label : ℕ → ℕ) (o : Option (List ℕ)) → MatchOption o (IsHigh g k n h label) (λ c. IsNearest g k n h label c) → IsAnswer g k n h label o
nearest_answer g k n h label None m = m
nearest_answer g k n h label (Some c) m = m.cut

-- and what the flow finds where there are many ends
pub nearest_flow : (net : FlowNet) → IsNet net → AreReaders net → (k : ℕ) (ends : List ℕ) → AreEnds net ends → k < length (ascending_of ends) → (o : Option (List ℕ)) → MatchOption o (IsHigh net.graph k net.node net.height net.label) (λ c. IsNearest net.graph k net.node net.height net.label c)
    → IfSome o (λ c. IsFlowCut net.graph k net.label net.node (net.height - 1) c)
nearest_flow net is readers k ends are many None m = tt
nearest_flow net is readers k ends are many (Some c) m = search_found net is readers k ends c are many m
