use Rattle.blif_flat.proofs.Lemmas.{◌∙◌, ap, ModelValue, ports_of_parts}
use Rattle.blif_flat.proofs.model.ports.Ports.make.Goals as goal

pub returns : goal.returns
returns c =
    ports_of_parts c.args.model.now c.requires c.in_ok-inputs.inputs c.in_ok-inputs-2.inputs c.in_ok-outputs.outputs c.deref.result.now c.deref-2.result.now c.deref-3.result.now
    c.in_ok-inputs.ensures c.in_ok-inputs-2.ensures c.in_ok-outputs.ensures
    (c.deref.ensures.value ∙ ap (λ (m : ModelValue). m.inputs) c.model.view_is)
    (c.deref-2.ensures.value ∙ ap (λ (m : ModelValue). m.clocks) c.model.view_is)
    (c.deref-3.ensures.value ∙ ap (λ (m : ModelValue). m.outputs) c.model.view_is)
