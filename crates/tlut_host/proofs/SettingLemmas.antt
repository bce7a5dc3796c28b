-- Settings that are taken are assigns of different parameters; and copies into an array, place by place.
use Rattle.tlut_host.proofs.Common.{inl, inr, ◌≡◌, ℕ, ◌+◌, ◌<◌, ◌≤◌, zero, suc, Bool, true, false, ltb, leb, List, [], ◌∷◌, map, Some, refl, sym, ap, subst, arith, slice_get, if◌then◌else◌, ltb-false, leb-false, none-some, same_Some, AreAssigned, Assign, settings_status, assign_of, take, length, slice_index_or, slice_set, copied_by}
use Rattle.list_laws.specs.Members.{In}
use Rattle.tlut_host.specs.declared.setting.ParameterSetting.{ParameterSetting}
use Rattle.tlut_host.specs.declared.setting.TheConstants.{DONE, RANGE, ORDER}

-- a choice that isn't its first answer
second : (y : Bool) (a b : ℕ) → (if y then a else b) ≡ 0 → (a ≡ 0 → ⊥) → (y ≡ false) × (b ≡ 0)
second true a b e other = absurd (other e)
second false a b e other = (refl, e)

parts : (params next : ℕ) (s : ParameterSetting) (ss : List ParameterSetting) → settings_status params next (s ∷ ss) ≡ DONE
    → (s.parameter < params) × (next ≤ s.parameter) × (settings_status params (s.parameter + 1) ss ≡ DONE)
parts params next s ss e =
    let a = second (leb params s.parameter) RANGE _ e (λ n. omega (arith, n)) in
    let b = second (ltb s.parameter next) ORDER _ a.1 (λ n. omega (arith, n)) in
    (leb-false params s.parameter a.0, ltb-false s.parameter next b.0, b.1)

late : (params next : ℕ) (ss : List ParameterSetting) (i : ℕ) (a : Assign) → settings_status params next ss ≡ DONE → slice_get (map assign_of ss) i ≡ Some a → next ≤ a.param
late params next [] i a e at = absurd (none-some a at)
late params next (s ∷ ss) zero a e at = subst (λ (n : ℕ). next ≤ n) (ap (λ (b : Assign). b.param) (same_Some (assign_of s) a at)) (parts params next s ss e).1
late params next (s ∷ ss) (suc i) a e at = let p = parts params next s ss e in omega (arith, p.1, late params (s.parameter + 1) ss i a p.2 at)

below : (params next : ℕ) (ss : List ParameterSetting) (a : Assign) → settings_status params next ss ≡ DONE → In (map assign_of ss) a → a.param < params
below params next [] a e i = absurd i
below params next (s ∷ ss) a e (inl same) = subst (λ (b : Assign). b.param < params) (sym same) (parts params next s ss e).0
below params next (s ∷ ss) a e (inr i) = below params (s.parameter + 1) ss a (parts params next s ss e).2 i

once : (params next : ℕ) (ss : List ParameterSetting) (i j : ℕ) (a b : Assign) → settings_status params next ss ≡ DONE
    → slice_get (map assign_of ss) i ≡ Some a → slice_get (map assign_of ss) j ≡ Some b → a.param ≡ b.param → i ≡ j
once params next [] i j a b e at bt same = absurd (none-some a at)
once params next (s ∷ ss) zero zero a b e at bt same = refl
once params next (s ∷ ss) zero (suc j) a b e at bt same =
    let p = parts params next s ss e in let l = late params (s.parameter + 1) ss j b p.2 bt in
    let q : s.parameter ≡ a.param = ap (λ (c : Assign). c.param) (same_Some (assign_of s) a at) in absurd (omega (arith, l, q, same))
once params next (s ∷ ss) (suc i) zero a b e at bt same =
    let p = parts params next s ss e in let l = late params (s.parameter + 1) ss i a p.2 at in
    let q : s.parameter ≡ b.param = ap (λ (c : Assign). c.param) (same_Some (assign_of s) b bt) in absurd (omega (arith, l, q, same))
once params next (s ∷ ss) (suc i) (suc j) a b e at bt same =
    ap suc (once params (s.parameter + 1) ss i j a b (parts params next s ss e).2 at bt same)

pub settings_fit : (params : ℕ) (ss : List ParameterSetting) → settings_status params 0 ss ≡ DONE → AreAssigned params (map assign_of ss)
settings_fit params ss e = record {
  below = λ a i. below params 0 ss a e i;
  once = λ i j a b at bt same. once params 0 ss i j a b e at bt same;
}

module _ {A B : Type 0} (make : A → B) where
  pub copied_next : (ws : List A) (ps : List B) (i : ℕ) (d : A) → i < length ws → i < length ps
      → slice_set (copied_by make (take i ws) ps) i (make (slice_index_or ws i d)) ≡ copied_by make (take (suc i) ws) ps
  copied_next [] ps i d there few = absurd (omega (arith, there))
  copied_next (x ∷ ws) [] i d there few = absurd (omega (arith, few))
  copied_next (x ∷ ws) (p ∷ ps) zero d there few = refl
  copied_next (x ∷ ws) (p ∷ ps) (suc i) d there few = ap (λ (qs : List B). make x ∷ qs) (copied_next ws ps i d (omega (arith, there)) (omega (arith, few)))

  pub copied_whole : (ws : List A) (ps : List B) (k : ℕ) → (k < length ws → k < length ps → ⊥) → copied_by make (take k ws) ps ≡ copied_by make ws ps
  copied_whole [] ps zero few = refl
  copied_whole [] ps (suc k) few = refl
  copied_whole (w ∷ ws) [] zero few = refl
  copied_whole (w ∷ ws) [] (suc k) few = refl
  copied_whole (w ∷ ws) (p ∷ ps) zero few = absurd (few (omega arith) (omega arith))
  copied_whole (w ∷ ws) (p ∷ ps) (suc k) few = ap (λ (qs : List B). make w ∷ qs) (copied_whole ws ps k (λ a b. few (omega (arith, a)) (omega (arith, b))))
