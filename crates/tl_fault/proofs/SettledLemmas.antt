-- What has one answer, at one station and at the next.
use Rattle.std.proofs.Common.{◌≡◌, Result, Ok, Err, refl, sym, ap, ◌∙◌, subst}
use Rattle.tl_fault.specs.Settled.{IsSettled, HasAnswer, has_value, has_fault, IsAfter, IsFaultAfter, passed_on, here}

-- a result that is computed
result_some : {V E : Type 0} (r : Result V E) → HasAnswer (λ v. r ≡ Ok v) (λ e. r ≡ Err e)
result_some (Ok v) = has_value v refl
result_some (Err e) = has_fault e refl

pub result_settled : {V E : Type 0} (r : Result V E) → IsSettled (λ v. r ≡ Ok v) (λ e. r ≡ Err e)
result_settled r = record {
  some = result_some r;
  one_value = λ v w a b. let same : Ok v ≡ Ok w = sym a ∙ b in cc;
  one_fault = λ e f a b. let same : Err e ≡ Err f = sym a ∙ b in cc;
  not_both = λ v e a b. let same : Ok v ≡ Err e = sym a ∙ b in cc;
}

-- a station that goes on where the one before it made a value
module _ {V E W F : Type 0} (Is : V → Type 0) (IsFault : E → Type 0) (own : E → F) (IsNext : V → W → Type 0) (IsNextFault : V → F → Type 0)
    (settled : IsSettled Is IsFault) (next_settled : (v : V) → Is v → IsSettled (IsNext v) (IsNextFault v)) where
  goes_on : (v : V) → Is v → HasAnswer (IsNext v) (IsNextFault v) → HasAnswer (IsAfter Is IsNext) (IsFaultAfter Is IsFault own IsNextFault)
  goes_on v is (has_value w next) = has_value w (record { before = v; is = is; next = next })
  goes_on v is (has_fault f next) = has_fault f (here v is next)

  some : HasAnswer Is IsFault → HasAnswer (IsAfter Is IsNext) (IsFaultAfter Is IsFault own IsNextFault)
  some (has_value v is) = goes_on v is (next_settled v is).some
  some (has_fault e is) = has_fault (own e) (passed_on e is refl)

  one_value : (v w : W) → IsAfter Is IsNext v → IsAfter Is IsNext w → v ≡ w
  one_value v w a b = (next_settled b.before b.is).one_value v w (subst (λ x. IsNext x v) (settled.one_value a.before b.before a.is b.is) a.next) b.next

  one_fault : (e f : F) → IsFaultAfter Is IsFault own IsNextFault e → IsFaultAfter Is IsFault own IsNextFault f → e ≡ f
  one_fault e f (passed_on x a p) (passed_on y b q) = p ∙ ap own (settled.one_fault x y a b) ∙ sym q
  one_fault e f (passed_on x a p) (here w b m) = absurd (settled.not_both w x b a)
  one_fault e f (here v a n) (passed_on y b q) = absurd (settled.not_both v y a b)
  one_fault e f (here v a n) (here w b m) = (next_settled w b).one_fault e f (subst (λ x. IsNextFault x e) (settled.one_value v w a b) n) m

  not_both : (w : W) (f : F) → IsAfter Is IsNext w → IsFaultAfter Is IsFault own IsNextFault f → ⊥
  not_both w f a (passed_on y b q) = settled.not_both a.before y a.is b
  not_both w f a (here v b n) = (next_settled a.before a.is).not_both w f a.next (subst (λ x. IsNextFault x f) (settled.one_value v a.before b a.is) n)

  pub after_settled : IsSettled (IsAfter Is IsNext) (IsFaultAfter Is IsFault own IsNextFault)
  after_settled = record { some = some settled.some; one_value = one_value; one_fault = one_fault; not_both = not_both }
