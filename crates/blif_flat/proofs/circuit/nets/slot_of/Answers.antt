use Rattle.blif_flat.proofs.Lemmas.{◌≡◌, ◌+◌, ◌∙◌, Some, None, sym, ap, subst, arith, slice_get, option_and_then, slice_get_past, name_place, Start, NetsValue, slot_found, slot_fits}
use Rattle.blif_flat.proofs.circuit.nets.slot_of.Goals as goal

pub returns-in-None : goal.returns-in-None
returns-in-None c =
    let e = c.deref.ensures.value ∙ ap (λ (n : NetsValue). n.starts) c.nets.view_is in
    sym (ap (option_and_then (λ (s : Start). name_place (c.args.nets.now).names s c.args.name.now)) (subst (λ l. slice_get l c.args.i ≡ None) e (slice_get_past c.deref.result.now c.args.i c.in-None.ensures.lookup.3)))

pub returns-in-None-place_in : goal.returns-in-None-place_in
returns-in-None-place_in c = slot_found c.args.nets.now c.args.i c.args.name.now c.deref.result.now c.deref-in-Some.result.now c.in-Some.start.now None
    (c.deref.ensures.value ∙ ap (λ (n : NetsValue). n.starts) c.nets.view_is) (c.deref-in-Some.ensures.value ∙ ap (λ (n : NetsValue). n.names) c.nets.view_is) c.in-Some.ensures.lookup.3.0 c.in-Some.ensures.lookup.1 c.in-None-place_in.ensures

pub returns-in-Some-place_in : goal.returns-in-Some-place_in
returns-in-Some-place_in c = slot_found c.args.nets.now c.args.i c.args.name.now c.deref.result.now c.deref-in-Some.result.now c.in-Some.start.now (Some c.in-Some-place_in.place)
    (c.deref.ensures.value ∙ ap (λ (n : NetsValue). n.starts) c.nets.view_is) (c.deref-in-Some.ensures.value ∙ ap (λ (n : NetsValue). n.names) c.nets.view_is) c.in-Some.ensures.lookup.3.0 c.in-Some.ensures.lookup.1 c.in-Some-place_in.ensures

pub overflow_add-result : goal.overflow_add-result
overflow_add-result c = omega (
  arith,
  slot_fits c.args.nets.now c.requires c.args.i c.args.name.now ((c.in-Some.start.now).first + c.in-Some-place_in.place)
      (slot_found c.args.nets.now c.args.i c.args.name.now c.deref.result.now c.deref-in-Some.result.now c.in-Some.start.now (Some c.in-Some-place_in.place)
      (c.deref.ensures.value ∙ ap (λ (n : NetsValue). n.starts) c.nets.view_is) (c.deref-in-Some.ensures.value ∙ ap (λ (n : NetsValue). n.names) c.nets.view_is) c.in-Some.ensures.lookup.3.0 c.in-Some.ensures.lookup.1 c.in-Some-place_in.ensures),
)
