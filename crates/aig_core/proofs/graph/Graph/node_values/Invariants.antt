use Rattle.std.proofs.Common.{◌≡◌, ◌+◌, false, ◌∷◌, length, vec_len, drop}
use Rattle.aig_core.proofs.ValueLemmas.{values_from}
use Rattle.aig_core.proofs.graph.Graph.node_values.Given as goal

abbrev pub invariant-loop-pair : goal.invariant-loop-pair
invariant-loop-pair l = record {
  len : vec_len l.values ≡ 1 + length l.sources + l.pair-index;
  same : values_from l.values.items (drop l.pair-index l.pair-items) ≡ values_from (false ∷ l.sources) l.pair-items;
}
