use Rattle.ppc_file.proofs.Common.{◌≡◌, length, replicate, Parameter, MOST_PACK_NODES, in_nodes, StandsAt}
use Rattle.ppc_file.proofs.read_nodes.read_each.Given as goal

abbrev pub invariant-loop : goal.invariant-loop
invariant-loop l = record {
  stands : StandsAt l.file (in_nodes l.version l.params l.count l.graph.pairs) l.rest;
  graph : l.graph ≡ record { kinds = replicate (length l.params) Parameter; pairs = l.graph.pairs; max = MOST_PACK_NODES };
  count : length l.graph.pairs ≡ l.counter;
}
