-- The marks after a new node is put on the path, and after the last node of the path is left; and a node on the path, by its mark.
use Rattle.depth_first.proofs.Common.{◌≡◌, ℕ, ◌<◌, ◌↔◌, IsTrue, List, ◌∷◌, length, Option, Some, None, sym, ◌∙◌, subst, refl, inl, inr, slice_get, slice_set, false≢true, none-some, same_Some, slice_get_within, In, at_within, set_here, set_other, set_length, same_or, Mark, New, OnPath, Done, AreMarks, has_path_mark}

-- the mark of a node after one was set
set_mark : (marks : List Mark) (n k : ℕ) (x y : Mark) → n < length marks → slice_get (slice_set marks n x) k ≡ Some y → k ≡ n → x ≡ y
set_mark marks n k x y l g q = same_Some x y (sym (set_here marks n x l) ∙ subst (λ j. slice_get (slice_set marks n x) j ≡ Some y) q g)

same_mark : (marks : List Mark) (n k : ℕ) (x y : Mark) → slice_get (slice_set marks n x) k ≡ Some y → (k ≡ n → ⊥) → slice_get marks k ≡ Some y
same_mark marks n k x y g o = sym (set_other marks n k x o) ∙ g

long_too : (marks : List Mark) (n k : ℕ) (x : Mark) → k < length marks → k < length (slice_set marks n x)
long_too marks n k x l = subst (λ j. k < j) (sym (set_length marks n x)) l

module _ (marks : List Mark) (begun order path : List ℕ) (n : ℕ) where
  pub marks_entered : AreMarks marks begun order path → slice_get marks n ≡ Some New → AreMarks (slice_set marks n OnPath) (n ∷ begun) order (n ∷ path)
  marks_entered fit e =
      let l : n < length marks = slice_get_within marks n New e in
      let f = fit.fresh n e in record {
        below = λ k i. long_too marks n k OnPath (elim i [ inl q ↦ subst (λ y. y < length marks) (sym q) l | inr j ↦ fit.below k j ]);
        inside = λ k i. long_too marks n k OnPath (fit.inside k i);
        once = (f.0, fit.once);
        entered = λ k i. elim i [ inl q ↦ inl (inl q) | inr j ↦ (elim (fit.entered k j) [ inl p ↦ inl (inr p) | inr o ↦ inr o ]) ];
        walked = λ k i. elim i [ inl p ↦ (elim p [ inl q ↦ inl q | inr j ↦ inr (fit.walked k (inl j)) ]) | inr o ↦ inr (fit.walked k (inr o)) ];
        apart = λ k i j. elim i [ inl q ↦ f.1 (subst (λ y. In order y) q j) | inr i' ↦ fit.apart k i' j ];
        fresh = λ k g. elim (same_or k n) [
          | inl q ↦ absurd (let z : OnPath ≡ New = set_mark marks n k OnPath New l g q in cc)
          | inr o ↦ (let h = fit.fresh k (same_mark marks n k OnPath New g o) in (λ i. elim i [ inl q ↦ o q | inr j ↦ h.0 j ], h.1))
        ];
        on = λ k g. elim (same_or k n) [ inl q ↦ inl q | inr o ↦ inr (fit.on k (same_mark marks n k OnPath OnPath g o)) ];
        off = λ k g. elim (same_or k n) [
          | inl q ↦ absurd (let z : OnPath ≡ Done = set_mark marks n k OnPath Done l g q in cc)
          | inr o ↦ fit.off k (same_mark marks n k OnPath Done g o)
        ];
      }

  pub marks_finished : AreMarks marks begun order (n ∷ path) → AreMarks (slice_set marks n Done) begun (n ∷ order) path
  marks_finished fit =
      let l : n < length marks = fit.below n (inl refl) in record {
        below = λ k i. long_too marks n k Done (fit.below k (inr i));
        inside = λ k i. long_too marks n k Done (elim i [ inl q ↦ subst (λ y. y < length marks) (sym q) l | inr j ↦ fit.inside k j ]);
        once = fit.once.1;
        entered = λ k i. elim (fit.entered k i) [ inl p ↦ (elim p [ inl q ↦ inr (inl q) | inr j ↦ inl j ]) | inr o ↦ inr (inr o) ];
        walked = λ k i. elim i [ inl p ↦ fit.walked k (inl (inr p)) | inr o ↦ (elim o [ inl q ↦ fit.walked k (inl (inl q)) | inr j ↦ fit.walked k (inr j) ]) ];
        apart = λ k i j. elim j [ inl q ↦ fit.once.0 (subst (λ y. In path y) q i) | inr j' ↦ fit.apart k (inr i) j' ];
        fresh = λ k g. elim (same_or k n) [
          | inl q ↦ absurd (let z : Done ≡ New = set_mark marks n k Done New l g q in cc)
          | inr o ↦ (let h = fit.fresh k (same_mark marks n k Done New g o) in (λ i. h.0 (inr i), λ i. elim i [ inl q ↦ o q | inr j ↦ h.1 j ]))
        ];
        on = λ k g. elim (same_or k n) [
          | inl q ↦ absurd (let z : Done ≡ OnPath = set_mark marks n k Done OnPath l g q in cc)
          | inr o ↦ elim (fit.on k (same_mark marks n k Done OnPath g o)) [ inl q ↦ absurd (o q) | inr j ↦ j ]
        ];
        off = λ k g. elim (same_or k n) [ inl q ↦ inl q | inr o ↦ inr (fit.off k (same_mark marks n k Done Done g o)) ];
      }

  pub mark_on_path : AreMarks marks begun order path → (o : Option Mark) → slice_get marks n ≡ o → IsTrue (has_path_mark o) ↔ In path n
  mark_on_path fit None e = (λ t. absurd (false≢true t), λ i. absurd (let m = at_within marks n (fit.below n i) in none-some m.0 (sym e ∙ m.1)))
  mark_on_path fit (Some New) e = (λ t. absurd (false≢true t), λ i. absurd ((fit.fresh n e).0 i))
  mark_on_path fit (Some OnPath) e = (λ t. fit.on n e, λ i. refl)
  mark_on_path fit (Some Done) e = (λ t. absurd (false≢true t), λ i. absurd (fit.apart n i (fit.off n e)))
