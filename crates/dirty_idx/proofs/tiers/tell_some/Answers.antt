use Rattle.std.proofs.Common.{arith}
use Rattle.dirty_idx.proofs.LayerLemmas.{some_up, said_above, some_end}
use Rattle.dirty_idx.proofs.tiers.tell_some.Goals as goal

pub loop-at-preserved : goal.loop-at-preserved
loop-at-preserved c = record {
  within = omega arith;
  way = λ base told to some. some_up base c.loop-at.at c.index_mut.result.now c.args.words.now.items c.loop-at.words.items (omega arith) (omega arith) c.index_mut.ensures.value (c.loop-at.invariant.way base told to some);
}

pub returns-after-loop-at : goal.returns-after-loop-at
returns-after-loop-at c = λ base told to some. some_end base c.loop-at.at c.args.words.now.items c.loop-at.words.items (λ above. absurd (omega arith)) (c.loop-at.invariant.way base told to some)

pub returns-else-index-at-eq0 : goal.returns-else-index-at-eq0
returns-else-index-at-eq0 c = λ base told to some.
    some_end base c.loop-at.at c.args.words.now.items c.loop-at.words.items (λ above. said_above c.loop-at.at c.index.result.now c.loop-at.words.items (omega arith) c.index.ensures c.if-index-at-eq0.false) (c.loop-at.invariant.way base told to some)
