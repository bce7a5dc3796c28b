use Rattle.aiger_io.proofs.Common.{◌≡◌, ◌+◌, drop, first_twice}
use Rattle.aiger_io.proofs.port_names.look_for.Given as goal

abbrev pub invariant-loop-place : goal.invariant-loop-place
invariant-loop-place l = record {
  same : l.place-items ≡ l.said.places;
  number : l.number ≡ l.line + l.place-index;
  so_far : first_twice l.header l.said l.number (drop l.place-index l.place-items) ≡ first_twice l.header l.said l.line l.said.places;
}
