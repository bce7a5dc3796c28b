use Rattle.cover_pick.proofs.Lemmas.{label_at, ok_serving}
use Rattle.cover_pick.proofs.makings.sets_for.Goals as goal

pub returns-clause-serving : goal.returns-clause-serving
returns-clause-serving c = ok_serving c.args.graph.now c.args.k (label_at c.args.labels.now) c.requires.labels c.bounded_sets.result c.bounded_sets.ensures.serving
