use Rattle.blif_flat.proofs.Lemmas.{◌∙◌, ap, reverse, subst, sym, reverse-reverse, In, at_within, reversed_in, models_fault, Tells, models_at, passed_on, walk_fault, heavy_fault, driver_fault, comes_past}
use Rattle.blif_flat.proofs.model.checks.check_models.Goals as goal

pub check_weight-requires-clause-main : goal.check_weight-requires-clause-main
check_weight-requires-clause-main c = reversed_in c.order.result.now 0 (subst (λ ns. In ns 0) (sym c.order.ensures) c.in_ok-walked.ensures.main)

pub returns-in_err-walked-clause-err : goal.returns-in_err-walked-clause-err
returns-in_err-walked-clause-err c =
    let first = at_within c.args.library.now.models 0 c.requires.formed.some in
    passed_on c.from_residual.result c.in_err-walked.field-0.0 _ _ c.from_residual.ensures.1
    (walk_fault c.args.library.now first.0 first.1 c.in_err-walked.field-0.0 (c.in_err-walked.ensures.err first.0 first.1))

pub returns-in_err-check_weight-clause-err : goal.returns-in_err-check_weight-clause-err
returns-in_err-check_weight-clause-err c =
    let first = at_within c.args.library.now.models 0 c.requires.formed.some in
    passed_on c.from_residual-in_err-check_weight.result c.in_err-check_weight.field-0.0 _ _ c.from_residual-in_err-check_weight.ensures.1
    (heavy_fault c.args.library.now first.0 first.1 (reverse c.in_ok-walked.walked.begun) (c.in_ok-walked.ensures.ok first.0 first.1) c.in_err-check_weight.field-0.0 (c.in_err-check_weight.ensures first.0 first.1))

pub returns-clause-ok : goal.returns-clause-ok
returns-clause-ok c =
    let first = at_within c.args.library.now.models 0 c.requires.formed.some in
    comes_past c.args.library.now first.0 first.1 (reverse c.in_ok-walked.walked.begun) (c.in_ok-walked.ensures.ok first.0 first.1) c.check_drivers.result c.requires.formed (c.in_ok-check_weight.ensures first.0 first.1)
    (subst (λ ns. Tells c.check_drivers.result (models_fault c.args.library.now (models_at c.args.library.now.models ns))) (sym (reverse-reverse c.begun.result.now) ∙ ap reverse c.begun.ensures) c.check_drivers.ensures)

pub returns-clause-err : goal.returns-clause-err
returns-clause-err c =
    let first = at_within c.args.library.now.models 0 c.requires.formed.some in
    driver_fault c.args.library.now first.0 first.1 (reverse c.in_ok-walked.walked.begun) (c.in_ok-walked.ensures.ok first.0 first.1) c.check_drivers.result (c.in_ok-check_weight.ensures first.0 first.1)
    (subst (λ ns. Tells c.check_drivers.result (models_fault c.args.library.now (models_at c.args.library.now.models ns))) (sym (reverse-reverse c.begun.result.now) ∙ ap reverse c.begun.ensures) c.check_drivers.ensures)
