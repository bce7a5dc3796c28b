use Rattle.blif_flat.proofs.Lemmas.{◌≡◌, ◌∙◌, Bool, List, ap, subst, IfOk, ModelValue, marked_inputs}
use Rattle.blif_flat.proofs.clock.clocks.clock_marks.Goals as goal

pub returns : goal.returns
returns c = subst (λ (l : List Bool). IfOk c.marks_of.result (λ marks. marks.items ≡ l))
    (marked_inputs c.args.model.now c.args.control c.deref.result.now c.in_ok-clocks.clocks c.args.inputs.now
    (c.deref.ensures.value ∙ ap (λ (m : ModelValue). m.clocks) c.model.view_is) c.in_ok-clocks.ensures c.requires.inputs) c.marks_of.ensures
