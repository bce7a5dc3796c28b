use Rattle.bounded_cuts.proofs.OnceLemmas.{sets_once}
use Rattle.bounded_cuts.proofs.ServingLemmas.{sets_serve}
use Rattle.bounded_cuts.proofs.laws.set_laws.Goals as goal

pub returns-clause-once : goal.returns-clause-once
returns-clause-once c = sets_once _ c.len-count.ensures.normal _ _ _

pub returns-clause-serves : goal.returns-clause-serves
returns-clause-serves c = sets_serve _ c.len-count.ensures.normal _ _ c.requires.labels _ c.requires.lows.cut c.requires.lows.low
