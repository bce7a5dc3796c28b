use Rattle.blif_flat.proofs.Common.{◌≡◌, drop, IsNets, with_inputs}
use Rattle.blif_flat.proofs.circuit.net_table.set_names.Given as goal

abbrev pub invariant-loop-name : goal.invariant-loop-name
invariant-loop-name l = record {
  inputs : with_inputs l.ports.inputs l.nets (drop l.name-index l.names) ≡ with_inputs l.ports.inputs l.initial.nets l.names;
  nets : IsNets l.nets;
}
