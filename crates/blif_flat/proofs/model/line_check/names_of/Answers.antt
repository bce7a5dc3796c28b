use Rattle.blif_flat.proofs.Lemmas.{names_at, names_next}
use Rattle.blif_flat.proofs.model.line_check.names_of.Goals as goal

pub loop-number-preserved : goal.loop-number-preserved
loop-number-preserved c = names_next c.args.models.now c.args.numbers.now c.loop-number.number-index 0 c.loop-number.names.items c.add_name.new.names.items (names_at c.args.models.now c.args.numbers.now)
    c.loop-number-test.true c.in_ok-add_name.ensures c.loop-number.invariant
