use Rattle.cmd_graph.proofs.ExportLemmas.{written_from}
use Rattle.cmd_graph.proofs.export.regular_places.Goals as goal

pub returns-clause-written : goal.returns-clause-written
returns-clause-written c = written_from c.args.built.now c.requires c.in_ok-places.places.items c.in_ok-places.ensures.names c.in_ok-places.ensures.count
