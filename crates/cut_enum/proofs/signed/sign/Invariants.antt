use Rattle.cut_enum.proofs.Common.{◌≡◌, ◌++◌, map, take, signature_of}
use Rattle.cut_enum.proofs.signed.sign.Given as goal

abbrev pub invariant-loop-cut : goal.invariant-loop-cut
invariant-loop-cut l = l.signatures.items ≡ l.fn.signatures.items ++ map signature_of (take l.cut-index l.cuts)
