use Rattle.blif_flat.proofs.Lemmas.{ap, ◌∙◌, ModelValue, regular_names}
use Rattle.blif_flat.proofs.field.flat_ports.regular_inputs.Goals as goal

pub returns : goal.returns
returns c test e = regular_names test c.in_ok-names.names.items c.deref.result.now c.args.marks.now c.args.model.now c.in_ok-names.ensures (c.deref.ensures.value ∙ ap (λ (m : ModelValue). m.inputs) c.model.view_is) e
