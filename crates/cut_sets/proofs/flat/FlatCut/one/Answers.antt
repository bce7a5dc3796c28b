use Rattle.std.proofs.Common.{arith, ◌∙◌}
use Rattle.cut_sets.proofs.SignatureLemmas.{signature-one}
use Rattle.cut_sets.proofs.flat.FlatCut.one.Goals as goal

pub invariant_of-result : goal.invariant_of-result
invariant_of-result c = record { few = omega arith; ascending = ((λ n i. absurd i), tt); signed = c.leaf_bit-signature.ensures ∙ signature-one c.args.leaf }
