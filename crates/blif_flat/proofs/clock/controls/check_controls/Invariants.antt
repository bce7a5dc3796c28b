use Rattle.blif_flat.proofs.Common.{◌≡◌, ◌<◌, ℕ, length, drop, Some, is_latch, paths_of, places_at, input_at, CameTo}
use Rattle.blif_flat.proofs.clock.controls.check_controls.Given as goal

abbrev pub invariant-loop-gate : goal.invariant-loop-gate
invariant-loop-gate l = record {
  within : (j : ℕ) → l.first ≡ Some j → j < length l.wiring.inputs.now;
  came : CameTo l.library (places_at l.library is_latch (paths_of l.wiring.instances.now)) (drop l.gate-index (places_at l.library is_latch (paths_of l.wiring.instances.now))) (input_at l.wiring.inputs.now l.first);
}
