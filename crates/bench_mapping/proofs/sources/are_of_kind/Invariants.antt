use Rattle.bench_mapping.proofs.Common.{◌<◌, ◌≤◌, ℕ, IsSource}
use Rattle.bench_mapping.proofs.sources.are_of_kind.Given as goal

abbrev pub invariant-loop-n : goal.invariant-loop-n
invariant-loop-n l = (m : ℕ) → l.start ≤ m → m < l.n → IsSource l.graph l.kind m
