use Rattle.cut_enum.proofs.Common.{◌≡◌, length, AreShared}
use Rattle.cut_enum.proofs.signed.share.Given as goal

abbrev pub invariant-loop-n : goal.invariant-loop-n
invariant-loop-n l = record {
  count : length l.shared.items ≡ l.n;
  grouped : AreShared l.signatures l.shared.items;
}
