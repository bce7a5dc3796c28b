use Rattle.spec_core.proofs.Common.{◌<◌, length, get_or, false, arith, Assign, In-get_or}
use Rattle.spec_core.proofs.evaluation.Evaluation.assign.Goals as goal

pub store-requires : goal.store-requires
store-requires c =
    let d : Assign = record { param = 0; bit = false } in
    let below : (get_or c.args.assigns.now c.loop-assign.assign-index d).param < length c.args.self.now.pack.graph.kinds
    = c.requires.below _ (In-get_or c.args.assigns.now c.loop-assign.assign-index d (omega arith)) in
    rw c.loop-assign.invariant.pack (omega (arith, below))
