use Rattle.cut_sets.proofs.Common.{◌≡◌, drop, bit_or, signature_of}
use Rattle.cut_sets.proofs.signatures.signature.Given as goal

abbrev pub invariant-loop-leaf : goal.invariant-loop-leaf
invariant-loop-leaf l = bit_or l.word (signature_of (drop l.leaf-index l.leaves)) ≡ signature_of l.leaves
