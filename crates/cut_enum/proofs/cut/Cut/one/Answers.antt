use Rattle.cut_enum.proofs.Common.{arith, ◌≡◌, [], ◌∷◌, ◌++◌, ap, ◌∙◌, signature-one}
use Rattle.cut_enum.proofs.cut.Cut.one.Goals as goal

pub invariant_of-result : goal.invariant_of-result
invariant_of-result c =
    let items : c.push_reserved.new.self.items ≡ c.args.leaf ∷ [] = c.push_reserved.ensures.items ∙ ap (λ s. s ++ c.args.leaf ∷ []) c.new-leaves.ensures.items in
    rw items (record {
      ascending = ((λ n i. absurd i), tt);
      few = omega arith;
      inline = c.push_reserved.ensures.capacity ∙ c.new-leaves.ensures.capacity;
      signed = c.leaf_bit-signature.ensures ∙ signature-one c.args.leaf;
    })
