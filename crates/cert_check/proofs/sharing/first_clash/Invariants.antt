use Rattle.cert_check.proofs.Common.{ℕ, Option, drop, IsFirstClash}
use Rattle.cert_check.proofs.sharing.first_clash.Given as goal

abbrev pub invariant-loop-m : goal.invariant-loop-m
invariant-loop-m l = (found : Option ℕ) → IsFirstClash l.stamps l.claims l.n l.claim (drop l.m-index l.nodes) found → IsFirstClash l.stamps l.claims l.n l.claim l.nodes found
