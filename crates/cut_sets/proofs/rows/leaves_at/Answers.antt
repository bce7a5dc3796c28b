use Rattle.cut_sets.proofs.Lemmas.{◌∙◌, sym, length, parts_of-at, starts-bounds}
use Rattle.cut_sets.proofs.rows.leaves_at.Goals as goal

pub part-requires-clause-ordered : goal.part-requires-clause-ordered
part-requires-clause-ordered c = (starts-bounds (length c.args.leaves.now) c.args.starts.now c.args.place c.requires.starts c.requires.inside).0

pub part-requires-clause-inside : goal.part-requires-clause-inside
part-requires-clause-inside c = (starts-bounds (length c.args.leaves.now) c.args.starts.now c.args.place c.requires.starts c.requires.inside).1

pub returns : goal.returns
returns c = c.part.ensures ∙ sym (parts_of-at c.args.starts.now c.args.leaves.now c.args.place c.requires.inside)
