use Rattle.dirty_idx.proofs.Lemmas.{MatchOption, sym, subst, IsLeast, IsEmpty, least_marks, empty_marks}
use Rattle.dirty_idx.proofs.tiers.Tiers.first.Goals as goal

pub returns-in_err-at : goal.returns-in_err-at
returns-in_err-at c =
    let empty : IsEmpty c.args.self.now = empty_marks _ _ _ _ _ c.self.invariant.tiers c.self.view_is _ c.deref.ensures.value c.in_err-at.ensures in
    subst (λ o. MatchOption o (IsEmpty c.args.self.now) (λ i. IsLeast c.args.self.now i)) (sym c.from_residual.ensures) empty

pub returns : goal.returns
returns c = least_marks _ _ _ _ _ c.self.invariant.tiers c.self.view_is _ _ c.in_ok-at.at _ c.deref.ensures.value c.deref-2.ensures.value c.in_ok-at.ensures c.lowest_number.ensures.number c.lowest_number.ensures.fits
