use Rattle.aig_core.proofs.Common.{◌∙◌, ◌++◌, [], ◌∷◌, cond-false, is_pair, list_any-position_none}
use Rattle.aig_core.proofs.graph.push_new.Goals as goal

pub returns-clause-keys : goal.returns-clause-keys
returns-clause-keys c =
    c.in_ok-insert_full.ensures.keys
    ∙ cond-false _ c.args.pairs.now.keys (c.args.pairs.now.keys ++ c.args.pair ∷ []) (list_any-position_none (is_pair c.args.pair.x.0 c.args.pair.y.0) c.args.pairs.now.keys c.requires)
