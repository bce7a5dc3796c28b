use Rattle.std.proofs.Common.{◌+◌, ◌/◌, ◌<◌, length, arith}
use Rattle.dirty_idx.proofs.MarkLemmas.{word_within, put_marks, kept_marked}
use Rattle.dirty_idx.proofs.tiers.Tiers.mark.Goals as goal

pub set_bit-requires-clause-within : goal.set_bit-requires-clause-within
set_bit-requires-clause-within c = let h : c.self.inside.base + c.args.i / 64 < length c.self.inside.words.items = word_within _ _ _ _ _ c.self.invariant.tiers c.self.view_is c.args.i c.requires in omega arith

pub invariant_of-self : goal.invariant_of-self
invariant_of-self c = kept_marked _ _ _ _ _ _ c.self.invariant c.self.view_is c.args.i c.min-self-inside.result _ c.requires (omega (arith, c.min-self-inside.ensures, c.self.invariant.before.lowest)) (omega (arith, c.min-self-inside.ensures)) (omega (arith, c.min-self-inside.ensures)) c.set_bit.ensures

pub returns : goal.returns
returns c = put_marks _ _ _ _ _ c.self.invariant.tiers c.self.view_is c.args.i 1 _ c.requires c.set_bit.ensures
