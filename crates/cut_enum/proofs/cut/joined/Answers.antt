use Rattle.cut_enum.proofs.Common.{◌≡◌, ◌∙◌, arith, ap, sym, subst, bit_or, IsAscending, union, signature_of, IsAscending-union, signature-union, union_over_bits}
use Rattle.cut_enum.proofs.PutLemmas.{union_over, union_end}
use Rattle.cut_enum.proofs.cut.joined.Goals as goal

pub returns-then-signature-k : goal.returns-then-signature-k
returns-then-signature-k c =
    rw (← c.a.view_is, ← c.b.view_is)
    (union_over_bits c.a.inside.leaves.items c.b.inside.leaves.items c.args.k (rw (c.a.invariant.signed, c.b.invariant.signed) at c.if-signature-k.true))

pub returns-then-not-put_leaf : goal.returns-then-not-put_leaf
returns-then-not-put_leaf c =
    let xa : c.as_slice-x-items.result.now ≡ c.args.a.now = c.as_slice-x-items.ensures ∙ c.a.view_is in
    let lb : c.leaves.inside.leaves.items ≡ c.args.b.now = c.leaves.view_is ∙ c.copy.ensures in
    rw (← xa, ← lb) (union_over c.args.k c.as_slice-x-items.result.now c.leaves.inside.leaves.items c.loop-x.leaves.items c.loop-x.x-index c.loop-x-test.true c.loop-x.invariant.rest (c.put_leaf.ensures.full c.if-not-put_leaf.true))

pub invariant_of-result : goal.invariant_of-result
invariant_of-result c =
    let lb : c.leaves.inside.leaves.items ≡ c.b.inside.leaves.items = c.leaves.view_is ∙ c.copy.ensures ∙ sym c.b.view_is in
    let end : c.loop-x.leaves.items ≡ union c.as_slice-x-items.result.now c.leaves.inside.leaves.items = union_end c.as_slice-x-items.result.now c.leaves.inside.leaves.items c.loop-x.leaves.items c.loop-x.x-index c.loop-x-test.false c.loop-x.invariant.rest in
    let both : c.loop-x.leaves.items ≡ union c.a.inside.leaves.items c.b.inside.leaves.items =
    end ∙ ap (λ s. union s c.leaves.inside.leaves.items) c.as_slice-x-items.ensures ∙ ap (λ s. union c.a.inside.leaves.items s) lb in
    record {
      ascending = subst IsAscending (sym end) (IsAscending-union c.as_slice-x-items.result.now c.leaves.inside.leaves.items c.leaves.invariant.ascending);
      few = omega arith;
      inline = c.loop-x.invariant.inline;
      signed =
          ap (λ m. bit_or m c.b.inside.signature) c.a.invariant.signed
          ∙ ap (λ m. bit_or (signature_of c.a.inside.leaves.items) m) c.b.invariant.signed
          ∙ sym (signature-union c.a.inside.leaves.items c.b.inside.leaves.items)
          ∙ ap signature_of (sym both);
    }
