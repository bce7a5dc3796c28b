use Rattle.blif_flat.proofs.Common.{◌≡◌, [], drop, Option, Some, ModelValue, model_at, FlatErr, paths_of, places_at, is_gate, ClockData}
use Rattle.blif_flat.proofs.clock.clock_check.check_data.Given as goal

abbrev pub invariant-loop-gate : goal.invariant-loop-gate
invariant-loop-gate l = (main : ModelValue) (result : Option FlatErr) → model_at l.library [] ≡ Some main
    → ClockData l.library main (drop l.gate-index (places_at l.library is_gate (paths_of l.wiring.instances.now))) result → ClockData l.library main (places_at l.library is_gate (paths_of l.wiring.instances.now)) result
