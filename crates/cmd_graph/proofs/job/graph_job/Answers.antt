use Rattle.cmd_base.proofs.EndLemmas.{only_read, unbegun_ends}
use Rattle.cmd_graph.proofs.Common.{graph_seen, graph_walk}
use Rattle.cmd_graph.proofs.GraphJobLemmas.{graph_ends, graph_laws}
use Rattle.cmd_graph.proofs.job.graph_job.Goals as goal

pub returns-in-Err-clause-ends : goal.returns-in-Err-clause-ends
returns-in-Err-clause-ends g c ports =
    unbegun_ends (graph_walk (graph_seen c.args.words.now)) c.read_export.ensures.keeps (λ _. c.read_export.ensures.not_writing) (g.O.Sink.seen c.args.out.now) ports c.in-Err.outcome c.in-Err.ensures.err

pub returns-clause-ends : goal.returns-clause-ends
returns-clause-ends g c ports =
    graph_ends (graph_seen c.args.words.now) c.in-Ok.export c.in-Ok.ensures.export (g.S.Shelf.seen c.args.shelf.now) (g.S.Shelf.seen c.read_export.new.shelf) (g.S.Shelf.seen c.write_out-written.new.shelf)
    (only_read c.read_export.ensures.keeps) c.in-Ok.ensures.given c.write_out-written.ensures.given c.in-Ok.ensures.comes (g.O.Sink.seen c.args.out.now) (g.O.Sink.seen c.write_out-written.new.out) ports c.write_out-written.result
    (c.write_out-written.ensures.ends ports) c.of_writing.result c.of_writing.ensures

pub returns-in-Err-clause-laws : goal.returns-in-Err-clause-laws
returns-in-Err-clause-laws g c = graph_laws (graph_seen c.args.words.now)

pub returns-clause-laws : goal.returns-clause-laws
returns-clause-laws g c = graph_laws (graph_seen c.args.words.now)
