use Rattle.blif_flat.proofs.Lemmas.{◌≡◌, [], with_names, model_names, ◌∙◌, new_names, few_model_names, all_names}
use Rattle.blif_flat.proofs.model.ports.ModelIndex.make.Goals as goal

pub invariant_of-result : goal.invariant_of-result
invariant_of-result c =
    let e : c.loop-model.names ≡ with_names [] (model_names c.args.models.now) = all_names c.loop-model.names (with_names [] (model_names c.args.models.now)) c.args.models.now c.loop-model.model-index c.loop-model.invariant c.loop-model-test.false in
    record { few = few_model_names c.loop-model.names c.args.models.now 4294967296 e c.requires.once c.requires.few }

pub returns : goal.returns
returns c =
    let e : c.loop-model.names ≡ with_names [] (model_names c.args.models.now) = all_names c.loop-model.names (with_names [] (model_names c.args.models.now)) c.args.models.now c.loop-model.model-index c.loop-model.invariant c.loop-model-test.false in
    e ∙ new_names (model_names c.args.models.now) c.requires.once
