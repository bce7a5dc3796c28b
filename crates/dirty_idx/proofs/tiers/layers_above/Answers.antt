use Rattle.std.proofs.Common.{◌+◌, ◌*◌, sym, ap, ◌∙◌, arith}
use Rattle.dirty_idx.specs.Layers.{upper_words}
use Rattle.dirty_idx.proofs.LayerLemmas.{upper_more}
use Rattle.dirty_idx.proofs.tiers.layers_above.Goals as goal

pub loop-base-init : goal.loop-base-init
unfolding upper_words
loop-base-init c = record { above = omega arith; few = omega arith; short = omega arith }

pub loop-base-preserved : goal.loop-base-preserved
loop-base-preserved c = record { above = ap (λ n. 64 * n + 1) c.loop-base.invariant.above ∙ sym (upper_more c.loop-base.depth); few = omega arith; short = omega arith }
