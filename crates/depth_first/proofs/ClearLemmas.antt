-- The marks once the nodes that were entered are forgotten.
use Rattle.depth_first.proofs.Common.{◌≡◌, ℕ, ◌<◌, List, [], ◌∷◌, length, Some, refl, sym, ap, ◌∙◌, subst, inl, inr, ◌⊎◌, slice_get, slice_set, none-some, same_Some, slice_get_within, In, set_here, set_other, set_length, same_or, Mark, New, OnPath, Done, WalkValue, seen, FramesValue, path_of, first_of, others_of, without_begun, renewed, forgotten, AreForgettable, AreMarks, arith, rules}

abbrev pub with_count : ℕ → WalkValue
with_count n = record { count = n; begun = []; order = []; path = [] }

pub forgotten-length : (marks : List Mark) (ns : List ℕ) → length (forgotten marks ns) ≡ length marks
forgotten-length marks [] = refl
forgotten-length marks (n ∷ ns) = forgotten-length (slice_set marks n New) ns ∙ set_length marks n New

-- a mark is new, or it is as before and not of these nodes
set_back : (marks : List Mark) (n k : ℕ) (m : Mark) → slice_get (slice_set marks n New) k ≡ Some m → k ≡ n → m ≡ New
set_back marks n k m g q = grind (arith, set_length, slice_get_within, same_Some, set_here)

pub forgotten-get : (marks : List Mark) (ns : List ℕ) (k : ℕ) (m : Mark) → slice_get (forgotten marks ns) k ≡ Some m → (m ≡ New) ⊎ ((In ns k → ⊥) × (slice_get marks k ≡ Some m))
forgotten-get marks [] k m g = inr (λ i. i, g)
forgotten-get marks (n ∷ ns) k m g = search (rules, same_or, set_back, set_other, forgotten-get (slice_set marks n New) ns k m g)

-- marks that are all new
all_new : (marks : List Mark) → ((k : ℕ) (m : Mark) → slice_get marks k ≡ Some m → m ≡ New) → AreMarks marks [] [] []
all_new marks h = search rules

old_new : (marks : List Mark) (begun order path : List ℕ) → AreMarks marks begun order path → (k : ℕ) (m : Mark) → slice_get marks k ≡ Some m → (In begun k → ⊥) → m ≡ New
old_new marks begun order path fit k New g o = refl
old_new marks begun order path fit k OnPath g o = absurd (o (fit.walked k (inl (fit.on k g))))
old_new marks begun order path fit k Done g o = absurd (o (fit.walked k (inr (fit.off k g))))

marks_cleared : (marks : List Mark) (begun order path : List ℕ) → AreMarks marks begun order path → AreMarks (forgotten marks begun) [] [] []
marks_cleared marks begun order path fit = all_new (forgotten marks begun) (λ k m g. elim (forgotten-get marks begun k m g) [ inl e ↦ e | inr p ↦ old_new marks begun order path fit k m p.1 p.0 ])

-- one more mark is forgotten
pub first_others : {A : Type 0} (xs : List A) (x : A) → first_of xs ≡ Some x → xs ≡ x ∷ others_of xs
first_others [] x e = absurd (none-some x e)
first_others (y ∷ ys) x e = ap (λ z. z ∷ ys) (same_Some y x e)

module _ (w v : FramesValue) (n : ℕ) (first : first_of v.begun ≡ Some n) (f : AreForgettable w v) where
  pub first_within : n < length v.marks
  first_within = f.within n (subst (λ x. In x n) (sym (first_others v.begun n first)) (inl refl))

  pub forget_step : (u : FramesValue) → u ≡ renewed (without_begun v) n → AreForgettable w u
  forget_step u e = subst (AreForgettable w) (sym e) (record {
    same = subst (λ x. forgotten v.marks x ≡ forgotten w.marks w.begun) (first_others v.begun n first) f.same;
    within = λ k i. subst (λ j. k < j) (sym (set_length v.marks n New)) (f.within k (subst (λ x. In x k) (sym (first_others v.begun n first)) (inr i)));
  })

-- all are
abbrev all_forgotten : FramesValue → FramesValue
all_forgotten w = record { marks = forgotten w.marks w.begun; begun = []; order = []; stack = [] }

pub cleared_fits : (w u : FramesValue) → AreMarks w.marks w.begun w.order (path_of w.stack) → u ≡ all_forgotten w → AreMarks u.marks u.begun u.order (path_of u.stack)
cleared_fits w u fit e = subst (λ (v : FramesValue). AreMarks v.marks v.begun v.order (path_of v.stack)) (sym e) (marks_cleared w.marks w.begun w.order (path_of w.stack) fit)

pub cleared_seen : (w u : FramesValue) → u ≡ all_forgotten w → seen u ≡ with_count (length w.marks)
cleared_seen w u e = ap seen e ∙ ap with_count (forgotten-length w.marks w.begun)
