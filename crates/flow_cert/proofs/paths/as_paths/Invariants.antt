use Rattle.flow_cert.proofs.Common.{◌≡◌, ℕ, map, PathValue, Vec, Global}
use Rattle.flow_cert.proofs.paths.as_paths.Given as goal

abbrev pub invariant-loop-nodes : goal.invariant-loop-nodes
invariant-loop-nodes l = map (λ (p : PathValue). p.nodes) l.paths.items ≡ map (λ (v : Vec ℕ Global). v.items) l.yielded
