use Rattle.blif_flat.proofs.Common.{◌≡◌, drop, IsNets, with_covers}
use Rattle.blif_flat.proofs.circuit.net_table.set_covers.Given as goal

abbrev pub invariant-loop-k : goal.invariant-loop-k
invariant-loop-k l = record {
  covers : with_covers l.gates.library.now l.gates.instances.now l.nets l.k (drop l.k l.gates.covers.now) ≡ with_covers l.gates.library.now l.gates.instances.now l.initial.nets 0 l.gates.covers.now;
  nets : IsNets l.nets;
}
