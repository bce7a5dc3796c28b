use Rattle.blif_flat.proofs.Common.{◌≡◌, ℕ, length, take, In, IsKeptWeight}
use Rattle.blif_flat.proofs.model.weight.weigh.Given as goal

abbrev pub invariant-loop-number : goal.invariant-loop-number
invariant-loop-number l = record {
  kept : (n : ℕ) → In (take l.number-index l.order) n → IsKeptWeight l.library l.weights.items n;
  len : length l.weights.items ≡ length l.library.models;
}
