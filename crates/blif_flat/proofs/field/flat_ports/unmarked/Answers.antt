use Rattle.blif_flat.proofs.Lemmas.{[], unmarked_after, unmarked_step}
use Rattle.blif_flat.proofs.field.flat_ports.unmarked.Goals as goal

pub loop-i-preserved : goal.loop-i-preserved
loop-i-preserved c = unmarked_step c.loop-i.kept.items c.add_unmarked.new.names.items (unmarked_after [] c.args.names.now c.args.marks.now) c.args.names.now c.args.marks.now c.loop-i.i c.index-names-i.result
    c.loop-i-test.true c.index-names-i.is c.in_ok-add_unmarked.ensures c.loop-i.invariant
