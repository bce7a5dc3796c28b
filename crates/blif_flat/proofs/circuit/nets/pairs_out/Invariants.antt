use Rattle.blif_flat.proofs.Common.{◌≡◌, drop, ModelValue, is_output, ports_value, pairs_out, IsNets}
use Rattle.blif_flat.proofs.circuit.nets.pairs_out.Given as goal

abbrev pub invariant-loop-pair : goal.invariant-loop-pair
invariant-loop-pair l = record {
  copied : (child : ModelValue) → l.ports ≡ ports_value child → pairs_out (is_output child) l.inner l.outer l.nets (drop l.pair-index l.pairs) ≡ pairs_out (is_output child) l.inner l.outer l.initial.nets l.pairs;
  nets : IsNets l.nets;
}
