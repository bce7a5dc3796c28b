use Rattle.bounded_cuts.proofs.Lemmas.{all_sets, sets_serve}
use Rattle.bounded_cuts.proofs.making.bounded_sets.Goals as goal

pub returns-clause-sets : goal.returns-clause-sets
returns-clause-sets c = all_sets c.args.wanted.now _ _ c.in_ok-made.ensures

pub returns-clause-serving : goal.returns-clause-serving
returns-clause-serving c = sets_serve _ c.len-count.ensures.normal _ _ c.requires.labels _ c.requires.lows.cut c.requires.lows.low _ _ _ (all_sets c.args.wanted.now _ _ c.in_ok-made.ensures)
