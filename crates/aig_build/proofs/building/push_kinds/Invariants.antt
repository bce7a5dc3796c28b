use Rattle.std.proofs.Common.{◌≡◌, ◌++◌, replicate}
use Rattle.aig_build.proofs.building.push_kinds.Given as goal

abbrev pub invariant-loop-i : goal.invariant-loop-i
invariant-loop-i l = l.kinds.items ≡ l.initial.kinds.items ++ replicate l._i l.kind
