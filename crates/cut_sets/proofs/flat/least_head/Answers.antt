use Rattle.cut_sets.proofs.HeadLemmas.{head_left, head_right, head_both, head_last}
use Rattle.cut_sets.proofs.flat.least_head.Goals as goal

pub returns-then-x-y-clause-some : goal.returns-then-x-y-clause-some
returns-then-x-y-clause-some c = head_left c.args.xs.now c.args.ys.now c.requires.x_up c.in-len1-up.len_at_least c.in-len1-up-ys-2.len_at_least c.if-x-y.true

pub returns-then-y-x-clause-some : goal.returns-then-y-x-clause-some
returns-then-y-x-clause-some c = head_right c.args.xs.now c.args.ys.now c.requires.x_up c.in-len1-up.len_at_least c.in-len1-up-ys-2.len_at_least c.if-y-x.true

pub returns-in-empty-ys-2-clause-some : goal.returns-in-empty-ys-2-clause-some
returns-in-empty-ys-2-clause-some c = head_last c.args.xs.now c.args.ys.now c.requires.x_up c.in-len1-up.len_at_least c.in-empty-ys-2.len_below

pub returns-else-y-x-clause-some : goal.returns-else-y-x-clause-some
returns-else-y-x-clause-some c = head_both c.args.xs.now c.args.ys.now c.requires.x_up c.in-len1-up.len_at_least c.in-len1-up-ys-2.len_at_least c.if-x-y.false c.if-y-x.false
