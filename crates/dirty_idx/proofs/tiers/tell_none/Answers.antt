use Rattle.dirty_idx.proofs.Common.{sym, ◌∙◌, arith, get_or_read}
use Rattle.dirty_idx.proofs.LayerLemmas.{none_up}
use Rattle.dirty_idx.proofs.tiers.tell_none.Goals as goal

pub loop-at-preserved : goal.loop-at-preserved
loop-at-preserved c = record {
  within = omega arith;
  way = λ base told to said.
      none_up base c.loop-at.at c.index_mut.result.now c.args.words.now.items c.loop-at.words.items (omega arith) (omega arith) c.index_mut.ensures.value
      (sym (get_or_read c.loop-at.words.items c.loop-at.at c.index.result.now (omega arith) c.index.ensures 0) ∙ c.if-index-eq0.true)
      (c.loop-at.invariant.way base told to said);
}
