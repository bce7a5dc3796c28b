use Rattle.cut_sets.specs.Signature.{signature_of}
use Rattle.cut_sets.proofs.SignatureLemmas.{signature_next, signature_end}
use Rattle.cut_sets.proofs.signatures.signature.Goals as goal

pub loop-leaf-preserved : goal.loop-leaf-preserved
loop-leaf-preserved c =
    signature_next c.args.leaves.now c.loop-leaf.word c.loop-leaf.leaf-index c.leaf_bit-word.result (signature_of c.args.leaves.now) c.loop-leaf-test.true c.leaf_bit-word.ensures c.loop-leaf.invariant

pub returns : goal.returns
returns c = signature_end c.args.leaves.now c.loop-leaf.word c.loop-leaf.leaf-index (signature_of c.args.leaves.now) c.loop-leaf-test.false c.loop-leaf.invariant
