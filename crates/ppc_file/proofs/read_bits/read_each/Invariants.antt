use Rattle.ppc_file.proofs.Common.{◌≡◌, length, in_bits, StandsAt}
use Rattle.ppc_file.proofs.read_bits.read_each.Given as goal

abbrev pub invariant-loop : goal.invariant-loop
invariant-loop l = record {
  stands : StandsAt l.file (in_bits l.version l.params l.graph.pairs l.count l.bits.items) l.rest;
  count : length l.bits.items ≡ l.counter;
}
