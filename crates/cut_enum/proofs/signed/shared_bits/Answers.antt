use Rattle.cut_enum.proofs.SharedLemmas.{shared_next}
use Rattle.cut_enum.proofs.signed.shared_bits.Goals as goal

pub loop-word-preserved : goal.loop-word-preserved
loop-word-preserved c = shared_next c.args.words.now c.loop-word.bits c.loop-word.word-index c.loop-word.invariant
