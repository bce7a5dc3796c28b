use Rattle.ppc_file.proofs.Common.{◌≡◌, length, names_of_params, in_params, StandsAt}
use Rattle.ppc_file.proofs.read_params.read_each.Given as goal

abbrev pub invariant-loop : goal.invariant-loop
invariant-loop l = record {
  stands : StandsAt l.file (in_params l.version l.count l.params.items) l.rest;
  names : l.names ≡ names_of_params l.params.items;
  count : length l.params.items ≡ l.counter;
}
