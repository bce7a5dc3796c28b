use Rattle.cmd_cert.proofs.Common.{sym, subst, ComesToLabels}
use Rattle.cmd_stations.specs.Source.{source_seen}
use Rattle.cmd_cert.proofs.prove.job.read_proof.Goals as goal

pub returns-in-Ok-make_proof-clause-comes : goal.returns-in-Ok-make_proof-clause-comes
returns-in-Ok-make_proof-clause-comes g c files told =
    subst (λ l. ComesToLabels files (source_seen c.args.words.now.source) l) (sym c.in-Ok-make_proof.ensures.labelled) (c.in-Ok.ensures.comes files told)

pub returns-in-Ok-make_proof-clause-proof : goal.returns-in-Ok-make_proof-clause-proof
returns-in-Ok-make_proof-clause-proof g c = c.in-Ok-make_proof.ensures.proof c.args.words.now.source.rule c.in-Ok.ensures.labelled
