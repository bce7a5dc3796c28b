use Rattle.blif_flat.proofs.Lemmas.{passed_on, read_split, told, gone_on}
use Rattle.blif_flat.proofs.model.drivers.check_actuals.Goals as goal

pub returns-in_err-check_actual : goal.returns-in_err-check_actual
returns-in_err-check_actual c = λ child p. passed_on c.from_residual.result c.in_err-check_actual.field-0.0 _ _ c.from_residual.ensures.1
    (told c.in_err-check_actual.field-0.0 _ _ _ _ (read_split child c.args.site.now.model.now c.args.site.now.line c.args.driven.now c.args.pairs.now c.loop-pair.pair-index c.pair-item.result c.loop-pair-test.true c.pair-item.is)
    (c.loop-pair.invariant child p) (c.in_err-check_actual.ensures child p))

pub loop-pair-preserved : goal.loop-pair-preserved
loop-pair-preserved c = λ child p.
    gone_on _ _ _ _ (read_split child c.args.site.now.model.now c.args.site.now.line c.args.driven.now c.args.pairs.now c.loop-pair.pair-index c.pair-item.result c.loop-pair-test.true c.pair-item.is)
    (c.loop-pair.invariant child p) (c.in_ok-check_actual.ensures child p)
