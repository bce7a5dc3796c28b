use Rattle.std.proofs.Common.{◌∙◌}
use Rattle.cut_sets.proofs.PartLemmas.{part_none, part_right, part_both}
use Rattle.cut_sets.proofs.flat.+is_subset.Goals as goal

pub returns-then-x-y : goal.returns-then-x-y
returns-then-x-y t c = part_none c.args.xs.now c.args.ys.now c.requires.y_up c.in-len1-up.len_at_least c.in-len1-up-ys.len_at_least c.if-x-y.true

pub returns-then-y-x : goal.returns-then-y-x
returns-then-y-x t c = c.is_subset.ensures ∙ part_right c.args.xs.now c.args.ys.now c.requires.x_up c.in-len1-up.len_at_least c.in-len1-up-ys.len_at_least c.if-y-x.true

pub returns-else-y-x : goal.returns-else-y-x
returns-else-y-x t c =
    c.is_subset-in-len1-up-ys.ensures ∙ part_both c.args.xs.now c.args.ys.now c.requires.x_up c.in-len1-up.len_at_least c.in-len1-up-ys.len_at_least c.if-x-y.false c.if-y-x.false
