use Rattle.blif_flat.proofs.Lemmas.{passed_on, models_split, told, gone_on}
use Rattle.blif_flat.proofs.model.drivers.check_drivers.Goals as goal

pub returns-in_err-check_number : goal.returns-in_err-check_number
returns-in_err-check_number c = passed_on c.from_residual.result c.in_err-check_number.field-0.0 _ _ c.from_residual.ensures.1
    (told c.in_err-check_number.field-0.0 _ _ _ _ (models_split c.args.library.now c.args.order.now c.loop-number.number-index c.loop-number-test.true) c.loop-number.invariant c.in_err-check_number.ensures)

pub loop-number-preserved : goal.loop-number-preserved
loop-number-preserved c = gone_on _ _ _ _ (models_split c.args.library.now c.args.order.now c.loop-number.number-index c.loop-number-test.true) c.loop-number.invariant c.in_ok-check_number.ensures
