use Rattle.cmd_graph.proofs.Common.{sym, subst, ComesToGraph, source_seen}
use Rattle.cmd_graph.proofs.job.read_export.Goals as goal

pub returns-in-Ok-make_export-clause-comes : goal.returns-in-Ok-make_export-clause-comes
returns-in-Ok-make_export-clause-comes g c files told =
    subst (λ b. ComesToGraph files (source_seen c.args.words.now.source) b) (sym c.in-Ok-make_export.ensures.built) (c.in-Ok.ensures.comes files told)
