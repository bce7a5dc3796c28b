use Rattle.blif_flat.proofs.Common.{◌≡◌, [], drop, with_names, model_names}
use Rattle.blif_flat.proofs.model.ports.ModelIndex.make.Given as goal

abbrev pub invariant-loop-model : goal.invariant-loop-model
invariant-loop-model l = with_names l.names (model_names (drop l.model-index l.models)) ≡ with_names [] (model_names l.models)
