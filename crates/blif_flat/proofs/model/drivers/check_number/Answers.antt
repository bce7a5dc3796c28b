use Rattle.blif_flat.proofs.Common.{length, ap, sym, subst, refl, ◌∙◌, slice_get, slice_get_read, slice_get_past, LibraryValue, Tells, fault_of}
use Rattle.blif_flat.proofs.model.drivers.check_number.Goals as goal

pub returns-in-None : goal.returns-in-None
returns-in-None c =
    let same = c.deref.ensures.value ∙ ap (λ (l : LibraryValue). l.models) c.library.view_is in
    let h = c.in-None.ensures.lookup in
    ap (λ ms. fault_of c.args.library.now (slice_get ms c.args.number)) (sym same) ∙ ap (fault_of c.args.library.now) (slice_get_past c.deref.result.now c.args.number h.3)

pub returns-in-Some : goal.returns-in-Some
returns-in-Some c =
    let same = c.deref.ensures.value ∙ ap (λ (l : LibraryValue). l.models) c.library.view_is in
    let h = c.in-Some.ensures.lookup in
    let at = slice_get_read c.deref.result.now (length c.deref.result.now) c.args.number c.in-Some.model.now refl h.3.0 h.1 in
    subst (λ o. Tells c.check_model.result (fault_of c.args.library.now o)) (sym (ap (λ ms. slice_get ms c.args.number) (sym same) ∙ at)) (c.check_model.ensures c.args.library.now c.requires)
