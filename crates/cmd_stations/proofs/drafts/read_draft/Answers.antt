use Rattle.cmd_stations.proofs.Common.{sym, subst, source_seen, ComesPast}
use Rattle.cmd_stations.specs.declared.mapped.MappedSource.{MappedSource}
use Rattle.cmd_stations.proofs.drafts.read_draft.Goals as goal

pub returns-in-Ok-make_draft-clause-comes : goal.returns-in-Ok-make_draft-clause-comes
returns-in-Ok-make_draft-clause-comes g c files told =
    subst (λ (m : MappedSource). ComesPast files (source_seen c.args.words.now) m) (sym c.in-Ok-make_draft.ensures.mapped) (c.in-Ok.ensures.comes files told)
