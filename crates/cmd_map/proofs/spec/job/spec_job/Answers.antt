use Rattle.cmd_map.proofs.Common.{sym, subst, param_inits, IsConf, spec_seen, spec_walk, memory_ends, only_read, unbegun_ends}
use Rattle.cmd_map.proofs.SpecLemmas.{spec_ends, spec_laws}
use Rattle.cmd_map.proofs.spec.job.spec_job.Goals as goal

pub returns-in-Err-clause-ends : goal.returns-in-Err-clause-ends
returns-in-Err-clause-ends g c ports =
    unbegun_ends (spec_walk (spec_seen c.args.words.now)) c.read_draft.ensures.keeps (λ _. c.read_draft.ensures.not_writing) (g.O.Sink.seen c.args.out.now) ports c.in-Err.outcome c.in-Err.ensures.err

pub returns-in-Err-listed_config-clause-ends : goal.returns-in-Err-listed_config-clause-ends
returns-in-Err-listed_config-clause-ends g c ports = memory_ends (spec_walk (spec_seen c.args.words.now)) c.read_draft.ensures.keeps (λ _. c.read_draft.ensures.not_writing) (g.O.Sink.seen c.args.out.now) ports

pub returns-clause-ends : goal.returns-clause-ends
returns-clause-ends g c ports =
    let m = c.in-Ok.draft.mapped in
    let conf = subst (λ cs. IsConf m.tables.pack (param_inits m.source.params.list) cs) (sym c.deref.ensures.value) c.in-Ok-listed_config.ensures in
    spec_ends m c.in-Ok.ensures.draft.made c.deref.result.now conf c.write_out-written.ensures.means (spec_seen c.args.words.now) (g.S.Shelf.seen c.args.shelf.now) (g.S.Shelf.seen c.read_draft.new.shelf) (g.S.Shelf.seen c.write_out-written.new.shelf)
    (only_read c.read_draft.ensures.keeps) c.in-Ok.ensures.given c.write_out-written.ensures.given c.in-Ok.ensures.comes (g.O.Sink.seen c.args.out.now) (g.O.Sink.seen c.write_out-written.new.out) ports c.write_out-written.result
    (c.write_out-written.ensures.ends ports) c.of_writing.result c.of_writing.ensures

pub returns-in-Err-clause-laws : goal.returns-in-Err-clause-laws
returns-in-Err-clause-laws g c = spec_laws (spec_seen c.args.words.now)

pub returns-in-Err-listed_config-clause-laws : goal.returns-in-Err-listed_config-clause-laws
returns-in-Err-listed_config-clause-laws g c = spec_laws (spec_seen c.args.words.now)

pub returns-clause-laws : goal.returns-clause-laws
returns-clause-laws g c = spec_laws (spec_seen c.args.words.now)
