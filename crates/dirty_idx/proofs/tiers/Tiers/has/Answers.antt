use Rattle.std.proofs.Common.{◌+◌, ◌/◌, ◌<◌, length, arith}
use Rattle.dirty_idx.proofs.MarkLemmas.{word_within, has_is}
use Rattle.dirty_idx.proofs.tiers.Tiers.has.Goals as goal

pub index-requires : goal.index-requires
index-requires c = let h : c.self.inside.base + c.args.i / 64 < length c.self.inside.words.items = word_within _ _ _ _ _ c.self.invariant.tiers c.self.view_is c.args.i c.requires in omega arith

pub returns : goal.returns
returns c = has_is _ _ _ _ _ c.self.invariant.tiers c.self.view_is c.args.i _ c.requires c.index.ensures
