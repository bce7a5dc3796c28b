use Rattle.tlut_host.proofs.Common.{◌≡◌, List, [], length, vec_capacity, sym, ap, ◌∙◌, subst, arith, PackValue, IsKept, param_names}
use Rattle.tl_text.specs.NameSets.{with_names}
use Rattle.tl_text.proofs.NameSetLemmas.{new_names}
use Rattle.ppc_pack.specs.declared.pack.PackParam.{PackParam}
use Rattle.tlut_host.proofs.host.NamedSpecialiser.make.Goals as goal

pub invariant_of-result : goal.invariant_of-result
invariant_of-result c =
    let same : c.args.pack.params ≡ c.in_ok-specialiser.specialiser.pack.params = sym (ap (λ (p : PackValue). p.params) c.in_ok-specialiser.ensures.pack) in
    let names : c.in_ok-names.names.items ≡ param_names c.args.pack.params = c.in_ok-names.ensures ∙ ap param_names c.params.ensures.value in
    subst (λ (params : List PackParam). IsKept params c.in_ok-names.names.items c.in_ok-index.index (vec_capacity c.in_ok-assigns.assigns)) same (record {
      few = omega (arith, c.in_ok-assigns.ensures.capacity, ap length c.params-2.ensures.value);
      names_are = names;
      index_is = c.in_ok-index.ensures ∙ ap (with_names []) (c.deref.ensures.value ∙ names) ∙ new_names (param_names c.args.pack.params) c.params.ensures.pack.once;
    })
