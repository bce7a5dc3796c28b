use Rattle.blif_flat.proofs.Lemmas.{◌∙◌, ap, Ports, has_name, has_inputs}
use Rattle.blif_flat.proofs.model.ports.Ports.is_input.Goals as goal

pub returns-clause-model : goal.returns-clause-model
returns-clause-model c m e = c.has.ensures ∙ ap (λ (p : Ports). has_name p.inputs c.args.name.now) e ∙ has_inputs m c.args.name.now
