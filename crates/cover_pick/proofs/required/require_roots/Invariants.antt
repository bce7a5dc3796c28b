use Rattle.cover_pick.proofs.Common.{◌≡◌, drop, first_and, lits_of, require_roots}
use Rattle.cover_pick.proofs.required.require_roots.Given as goal

abbrev pub invariant-loop-root : goal.invariant-loop-root
invariant-loop-root l = require_roots (first_and l.graph) l.t l.reqs (lits_of (drop l.root-index l.roots)) ≡ require_roots (first_and l.graph) l.t l.initial.reqs (lits_of l.roots)
