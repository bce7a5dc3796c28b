use Rattle.std.proofs.Common.{arith}
use Rattle.dirty_idx.proofs.MarkLemmas.{clear_is}
use Rattle.dirty_idx.proofs.tiers.clear_bit.Goals as goal

pub returns : goal.returns
returns c = clear_is c.args.base c.args.i c.index_mut.result.now c.args.words.now.items c.tell_none.new.words.items (omega arith) (omega arith) c.requires.told c.requires.set c.index_mut.ensures.value c.tell_none.ensures
