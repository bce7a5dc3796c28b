use Rattle.ppc_file.proofs.Common.{◌+◌, drop, length, first_and, nodes_bytes, nodes_part, Added}
use Rattle.ppc_file.proofs.add_parts.add_nodes.Given as goal

abbrev pub invariant-loop-number : goal.invariant-loop-number
invariant-loop-number g l = Added g.O.Sink.seen l.fn.writer (nodes_part l.version (first_and l.graph) (length l.graph.pairs) l.graph.pairs) l.writer (nodes_bytes l.version (first_and l.graph + l.number) (drop l.number l.graph.pairs))
