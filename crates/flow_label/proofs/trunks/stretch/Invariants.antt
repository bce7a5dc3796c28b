use Rattle.flow_label.proofs.Common.{◌≡◌, ℕ, ◌<◌, ◌⊎◌, length, get_or, In}
use Rattle.flow_label.proofs.trunks.stretch.Given as goal

abbrev pub invariant-loop-m : goal.invariant-loop-m
invariant-loop-m l = record {
  size : length l.until.items ≡ length l.fn.until.items;
  each : (m : ℕ) → (get_or l.until.items m 0 ≡ get_or l.fn.until.items m 0) ⊎ (In l.nodes m × (get_or l.until.items m 0 ≡ l.floor));
  done : (j : ℕ) → j < l.m-index → get_or l.until.items (get_or l.nodes j 0) 0 ≡ l.floor;
}
