use Rattle.std.proofs.Common.{◌<◌, get_or, arith}
use Rattle.std.proofs.lemmas.Nat.{trailing_le}
use Rattle.dirty_idx.specs.Layers.{upper_words}
use Rattle.dirty_idx.proofs.LayerLemmas.{first_start, first_down, upper_within}
use Rattle.dirty_idx.proofs.tiers.first_word.Goals as goal

pub loop-layer-init : goal.loop-layer-init
loop-layer-init c = first_start c.args.words.now c.requires.some

pub overflow_add-at-in-loop-layer : goal.overflow_add-at-in-loop-layer
overflow_add-at-in-loop-layer c = let l : c.loop-layer.at < upper_words c.args.depth = upper_within c.loop-layer._layer c.args.depth c.loop-layer.at (omega arith) c.loop-layer.invariant.to in omega (arith, trailing_le 64 (get_or c.args.words.now c.loop-layer.at 0))

pub loop-layer-preserved : goal.loop-layer-preserved
loop-layer-preserved c = first_down c.args.depth c.loop-layer._layer c.loop-layer.at c.args.words.now (omega arith) c.requires.told (omega arith) c.loop-layer.invariant
