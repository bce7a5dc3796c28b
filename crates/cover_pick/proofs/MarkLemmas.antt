-- Marks of nodes, one of which is set.
use Rattle.cover_pick.proofs.Common.{◌≡◌, ℕ, zero, suc, ◌<◌, Bool, true, false, List, ◌∷◌, length, slice_set, get_or-set_same, get_or-set_other, refl, sym, ◌∙◌, inl, inr, ◌⊎◌, cases_eq, mark_of}

pub mark_here : (marks : List Bool) (n : ℕ) (b : Bool) → n < length marks → mark_of (slice_set marks n b) n ≡ b
mark_here marks n b w = get_or-set_same marks n b false w

pub mark_other : (marks : List Bool) (n m : ℕ) (b : Bool) → (m ≡ n → ⊥) → mark_of (slice_set marks n b) m ≡ mark_of marks m
mark_other marks n m b off = get_or-set_other marks n m b false off

pub mark_stays : (marks : List Bool) (n m : ℕ) → mark_of marks m ≡ true → mark_of (slice_set marks n true) m ≡ true
mark_stays (x ∷ xs) zero zero h = refl
mark_stays (x ∷ xs) (suc n) (suc m) h = mark_stays xs n m h
mark_stays xs n m h = h

pub mark_from : (marks : List Bool) (n m : ℕ) → mark_of (slice_set marks n true) m ≡ true → (m ≡ n) ⊎ (mark_of marks m ≡ true)
mark_from marks n m h = elim (cases_eq m n) [ inl e ↦ inl e | inr d ↦ inr (sym (mark_other marks n m true d) ∙ h) ]
