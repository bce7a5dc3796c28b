use Rattle.blif_flat.proofs.Common.{ap, ◌∙◌, ModelValue}
use Rattle.blif_flat.proofs.field.assemble.flat_header.Goals as goal

pub returns-clause-model : goal.returns-clause-model
returns-clause-model c = c.in_ok-model.ensures ∙ c.bytes.ensures ∙ ap (λ (m : ModelValue). m.name) c.main.view_is

pub returns-clause-inputs : goal.returns-clause-inputs
returns-clause-inputs c = λ test e. c.in_ok-regular.ensures test (c.deref.ensures.value ∙ e)

pub returns-clause-control : goal.returns-clause-control
returns-clause-control c = c.in_ok-control.ensures c.args.main.now c.requires.inputs
