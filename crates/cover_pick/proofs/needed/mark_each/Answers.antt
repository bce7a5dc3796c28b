use Rattle.cover_pick.proofs.Lemmas.{arith, length, ◌<◌, get_or, root_there}
use Rattle.cover_pick.proofs.needed.mark_each.Goals as goal

pub bounds-marks-lit : goal.bounds-marks-lit
bounds-marks-lit c = let a : (get_or c.args.lits.now c.loop-lit.lit-index (record { 0 = 0 })).0 < length c.args.marks.now = c.requires _ (root_there c.args.lits.now c.loop-lit.lit-index (record { 0 = 0 }) (omega arith)) in omega arith
