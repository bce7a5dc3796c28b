use Rattle.blif_flat.proofs.Common.{◌≡◌, drop, IsNets, with_latches}
use Rattle.blif_flat.proofs.circuit.net_table.set_latches.Given as goal

abbrev pub invariant-loop-k : goal.invariant-loop-k
invariant-loop-k l = record {
  latches : with_latches l.gates.library.now l.gates.instances.now l.nets l.k (drop l.k l.gates.latches.now) ≡ with_latches l.gates.library.now l.gates.instances.now l.initial.nets 0 l.gates.latches.now;
  nets : IsNets l.nets;
}
