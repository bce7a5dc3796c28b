use Rattle.cert_check.proofs.Common.{ℕ, drop, get_or, lits_of, SomeNeeds}
use Rattle.cert_check.proofs.FaultLemmas.{Same}
use Rattle.cert_check.proofs.checking.one_needs.Given as goal

abbrev pub invariant-loop-root : goal.invariant-loop-root
invariant-loop-root l = Same (SomeNeeds l.graph (lits_of l.roots) (λ (m : ℕ). get_or l.claims m 0) l.depth) (SomeNeeds l.graph (lits_of (drop l.root-index l.roots)) (λ (m : ℕ). get_or l.claims m 0) l.depth)
