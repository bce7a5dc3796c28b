use Rattle.cut_enum.proofs.Common.{◌≡◌, ◌++◌, take, drop, leading}
use Rattle.cut_enum.proofs.signed.count_leading.Given as goal

abbrev pub invariant-loop-i : goal.invariant-loop-i
invariant-loop-i l = take l.i l.cuts ++ leading l.size (drop l.i l.cuts) ≡ leading l.size l.cuts
