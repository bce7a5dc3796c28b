use Rattle.cut_enum.proofs.Lemmas.{◌≡◌, ◌<◌, ◌++◌, ◌∙◌, ℕ, List, length, map, get_or, ap, subst, arith, bit_or, count_ones, err_from_is_err_and, add_union, add_unions, signature_of, too_many_more, signed_length, unions_pass, unions_step}
use Rattle.cut_enum.proofs.least.add_unions.Goals as goal

pub loop-i-preserved-then-both-size : goal.loop-i-preserved-then-both-size
loop-i-preserved-then-both-size c =
    let signed : c.ds.inside.signatures.now ≡ map signature_of c.args.ds.now = c.ds.invariant.signed ∙ ap (λ (s : List (List ℕ)). map signature_of s) c.ds.view_is in
    record {
      rest =
          unions_pass c.args.size c.args.smaller.now c.args.c.now c.args.ds.now c.loop-i.level (add_unions c.args.size c.args.smaller.now c.args.c.now c.args.ds.now c.args.level.now) c.ds.inside.signatures.now c.loop-i.i signed
          c.loop-i-test.true (subst (λ w. c.args.size < count_ones (bit_or (get_or c.ds.inside.signatures.now c.loop-i.i 0) w)) c.signature-signature.ensures c.if-both-size.true) c.loop-i.invariant.rest;
      few = c.loop-i.invariant.few;
    }

pub returns-in_err-add_union-clause-too_many : goal.returns-in_err-add_union-clause-too_many
returns-in_err-add_union-clause-too_many c =
    let p = err_from_is_err_and c.from_residual.result c.from_residual.ensures.1 in
    let d : List ℕ = c.index-cuts-i.result in
    let signed : c.ds.inside.signatures.now ≡ map signature_of c.args.ds.now = c.ds.invariant.signed ∙ ap (λ (s : List (List ℕ)). map signature_of s) c.ds.view_is in
    let n : length c.ds.inside.signatures.now ≡ length c.args.ds.now = signed_length c.ds.inside.signatures.now c.args.ds.now signed in
    let at : d ≡ get_or c.args.ds.now c.loop-i.i d = c.index-cuts-i.is ∙ ap (λ (s : List (List ℕ)). get_or s c.loop-i.i d) c.ds.view_is in
    let l : c.loop-i.i < length c.ds.inside.signatures.now = c.loop-i-test.true in
    rw (p.1, p.2)
    (too_many_more c.args.node (c.args.smaller.now ++ add_union c.args.size c.args.smaller.now c.args.c.now d c.loop-i.level)
    (c.args.smaller.now ++ add_unions c.args.size c.args.smaller.now c.args.c.now c.args.ds.now c.args.level.now) c.in_err-add_union.field-0.0
    (unions_step c.args.size c.args.smaller.now c.args.c.now d c.args.ds.now c.loop-i.level (add_unions c.args.size c.args.smaller.now c.args.c.now c.args.ds.now c.args.level.now) c.loop-i.i (omega arith) at c.loop-i.invariant.rest)
    c.in_err-add_union.ensures.too_many)
