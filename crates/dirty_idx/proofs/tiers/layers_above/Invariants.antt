use Rattle.std.proofs.Common.{◌≡◌, ◌+◌, ◌-◌, ◌^◌, ◌≤◌}
use Rattle.dirty_idx.specs.Layers.{upper_words}
use Rattle.dirty_idx.proofs.tiers.layers_above.Given as goal

abbrev pub invariant-loop-base : goal.invariant-loop-base
invariant-loop-base l = record {
  above : l.base ≡ upper_words l.depth;
  few : l.base ≤ 2 ^ 27;
  short : l.depth ≤ l.base;
}

abbrev pub decreases-loop-base : goal.decreases-loop-base
decreases-loop-base l = 2 ^ 27 + 1 - l.base
