use Rattle.cmd_graph.proofs.ExportLemmas.{exported}
use Rattle.cmd_graph.proofs.export.export_law.Goals as goal

pub returns : goal.returns
returns c = exported c.args.built.now c.requires.built c.args.regular.now c.requires.written c.graph_law.ensures.circuit
