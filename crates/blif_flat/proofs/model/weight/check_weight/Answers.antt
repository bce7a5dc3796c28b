use Rattle.blif_flat.proofs.Lemmas.{ap, sym, ◌∙◌, slice_get, weight_told}
use Rattle.blif_flat.proofs.model.weight.check_weight.Goals as goal

pub returns : goal.returns
returns c = λ main at.
    weight_told c.args.library.now c.in_ok-weights.weights.items c.in-Some.field-0.now main c.check_kept.result (c.in_ok-weights.ensures.kept 0 c.requires.main) at
    (ap (λ ws. slice_get ws 0) (sym c.deref.ensures.value) ∙ sym c.in-Some.ensures.value) c.check_kept.ensures
