use Rattle.dirty_idx.proofs.Lemmas.{◌+◌, ◌/◌, ◌<◌, length, MatchOption, sym, subst, arith, IsLeast, IsEmpty, word_within, mark_set, put_marks, least_marks, empty_marks, kept_taken}
use Rattle.dirty_idx.proofs.tiers.Tiers.take_first.Goals as goal

pub returns-in_err-at-clause-least : goal.returns-in_err-at-clause-least
returns-in_err-at-clause-least c =
    let empty : IsEmpty c.args.self.now = empty_marks _ _ _ _ _ c.self.invariant.tiers c.self.view_is _ c.deref.ensures.value c.in_err-at.ensures in
    subst (λ o. MatchOption o (IsEmpty c.args.self.now) (λ i. IsLeast c.args.self.now i)) (sym c.from_residual.ensures) empty

pub clear_bit-requires-clause-within : goal.clear_bit-requires-clause-within
clear_bit-requires-clause-within c =
    let least : IsLeast c.args.self.now c.lowest_number-first.result = least_marks _ _ _ _ _ c.self.invariant.tiers c.self.view_is _ _ c.in_ok-at.at _ c.deref.ensures.value c.deref-2.ensures.value c.in_ok-at.ensures c.lowest_number-first.ensures.number c.lowest_number-first.ensures.fits in
    let h : c.self.inside.base + c.lowest_number-first.result / 64 < length c.self.inside.words.items = word_within _ _ _ _ _ c.self.invariant.tiers c.self.view_is c.lowest_number-first.result least.within in omega arith

pub clear_bit-requires-clause-set : goal.clear_bit-requires-clause-set
clear_bit-requires-clause-set c =
    let least : IsLeast c.args.self.now c.lowest_number-first.result = least_marks _ _ _ _ _ c.self.invariant.tiers c.self.view_is _ _ c.in_ok-at.at _ c.deref.ensures.value c.deref-2.ensures.value c.in_ok-at.ensures c.lowest_number-first.ensures.number c.lowest_number-first.ensures.fits in
    mark_set _ _ _ _ _ c.self.invariant.tiers c.self.view_is c.lowest_number-first.result least.within least.marked

pub invariant_of-self : goal.invariant_of-self
invariant_of-self c =
    let least : IsLeast c.args.self.now c.lowest_number-first.result = least_marks _ _ _ _ _ c.self.invariant.tiers c.self.view_is _ _ c.in_ok-at.at _ c.deref.ensures.value c.deref-2.ensures.value c.in_ok-at.ensures c.lowest_number-first.ensures.number c.lowest_number-first.ensures.fits in
    kept_taken _ _ _ _ _ c.self.invariant.tiers c.self.view_is _ _ c.in_ok-at.at _ _ c.deref.ensures.value c.in_ok-at.ensures c.lowest_number-first.ensures.number least.within c.clear_bit.ensures

pub returns-clause-least : goal.returns-clause-least
returns-clause-least c =
    least_marks _ _ _ _ _ c.self.invariant.tiers c.self.view_is _ _ c.in_ok-at.at _ c.deref.ensures.value c.deref-2.ensures.value c.in_ok-at.ensures c.lowest_number-first.ensures.number c.lowest_number-first.ensures.fits

pub returns-clause-rest : goal.returns-clause-rest
returns-clause-rest c =
    let least : IsLeast c.args.self.now c.lowest_number-first.result = least_marks _ _ _ _ _ c.self.invariant.tiers c.self.view_is _ _ c.in_ok-at.at _ c.deref.ensures.value c.deref-2.ensures.value c.in_ok-at.ensures c.lowest_number-first.ensures.number c.lowest_number-first.ensures.fits in
    put_marks _ _ _ _ _ c.self.invariant.tiers c.self.view_is c.lowest_number-first.result 0 _ least.within c.clear_bit.ensures
