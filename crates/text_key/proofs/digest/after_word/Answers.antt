use Rattle.text_key.specs.Digest.{with_word}
use Rattle.text_key.proofs.digest.after_word.Goals as goal

pub returns : goal.returns
unfolding with_word
returns c = simp c.round-mixed.ensures
