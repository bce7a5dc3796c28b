use Rattle.dirty_idx.specs.Layers.{IsFirstWord}
use Rattle.dirty_idx.proofs.tiers.first_word.Given as goal

abbrev pub invariant-loop-layer : goal.invariant-loop-layer
invariant-loop-layer l = IsFirstWord l._layer l.at l.words
