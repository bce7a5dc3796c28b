use Rattle.std.proofs.Common.{◌+◌, ◌/◌, ◌<◌, length, arith}
use Rattle.dirty_idx.proofs.MarkLemmas.{word_within, mark_set, put_marks, kept_unmarked}
use Rattle.dirty_idx.proofs.tiers.Tiers.unmark.Goals as goal

pub clear_bit-requires-clause-within : goal.clear_bit-requires-clause-within
clear_bit-requires-clause-within c =
    let h : c.self.inside.base + c.args.i / 64 < length c.self.inside.words.items = word_within _ _ _ _ _ c.self.invariant.tiers c.self.view_is c.args.i c.requires.within in omega arith

pub clear_bit-requires-clause-set : goal.clear_bit-requires-clause-set
clear_bit-requires-clause-set c = mark_set _ _ _ _ _ c.self.invariant.tiers c.self.view_is c.args.i c.requires.within c.requires.member

pub invariant_of-self : goal.invariant_of-self
invariant_of-self c = kept_unmarked _ _ _ _ _ _ c.self.invariant c.self.view_is c.args.i _ c.requires.within c.requires.member c.clear_bit.ensures

pub returns : goal.returns
returns c = put_marks _ _ _ _ _ c.self.invariant.tiers c.self.view_is c.args.i 0 _ c.requires.within c.clear_bit.ensures
