use Rattle.cut_enum.proofs.Lemmas.{◌≡◌, ◌∙◌, ◌≤◌, ℕ, List, map, length, ap, sym, subst, arith, AreShared, signature_of, share_head, signed_head, signed_length}
use Rattle.cut_enum.proofs.signed.Signed.leading.Goals as goal

pub invariant_of-result : goal.invariant_of-result
invariant_of-result c =
    let signed : c.deref-3.result.now ≡ map signature_of c.deref-2.result.now = c.deref-3.ensures.value ∙ c.self.invariant.signed ∙ ap (λ (s : List (List ℕ)). map signature_of s) (sym c.deref-2.ensures.value) in
    let grouped : AreShared c.deref-3.result.now c.deref-4.result.now =
    subst (λ s. AreShared c.deref-3.result.now s) (sym c.deref-4.ensures.value) (subst (λ w. AreShared w c.self.inside.shared.items) (sym c.deref-3.ensures.value) c.self.invariant.grouped) in
    let few : length c.deref-4.result.now ≡ length c.self.inside.shared.items = ap length c.deref-4.ensures.value in
    let long : length c.deref-3.result.now ≡ length c.deref-2.result.now = signed_length c.deref-3.result.now c.deref-2.result.now signed in
    let same : length c.deref.result.now ≡ length c.deref-2.result.now = ap length (c.deref.ensures.value ∙ sym c.deref-2.ensures.value) in
    let within : c.count_leading-count.result ≤ length c.deref.result.now = c.count_leading-count.ensures.within in
    record {
      signed = signed_head c.deref-3.result.now c.deref-2.result.now c.count_leading-count.result signed;
      grouped = share_head c.deref-3.result.now c.deref-4.result.now c.count_leading-count.result c.min.result grouped (omega (arith, c.min.ensures, c.len.ensures)) (omega (arith, c.min.ensures, c.len.ensures)) (omega arith);
    }
