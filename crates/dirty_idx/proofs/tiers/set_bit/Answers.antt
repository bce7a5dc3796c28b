use Rattle.std.proofs.Common.{arith}
use Rattle.dirty_idx.proofs.MarkLemmas.{set_is}
use Rattle.dirty_idx.proofs.tiers.set_bit.Goals as goal

pub returns : goal.returns
returns c = set_is c.args.base c.args.i c.index_mut.result.now c.args.words.now.items c.tell_some.new.words.items (omega arith) (omega arith) c.requires.told c.index_mut.ensures.value c.tell_some.ensures
