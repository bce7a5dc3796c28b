-- One line is the first that has a refusal, unless none has one.
use Rattle.tl_text.proofs.Common.{◌≡◌, ℕ, zero, suc, ◌<◌, ◌≤◌, ◌⊎◌, Option, Some, None, refl, sym, ap, subst, ◌∙◌, inl, inr, arith, cases_lt, none-some, same_Some, rules}
use Rattle.tl_text.specs.FirstRefusal.{IsFirst}

module _ {E : Type 0} (refusal_at : ℕ → Option E) where
  not_earlier : (e f : E) (a : IsFirst refusal_at e) (b : IsFirst refusal_at f) → a.place < b.place → ⊥
  not_earlier e f a b l = none-some e (sym (b.none_before a.place l) ∙ a.is)

  pub one_first : (e f : E) → IsFirst refusal_at e → IsFirst refusal_at f → e ≡ f
  one_first e f a b = search (rules, cases_lt, not_earlier, same_Some)

  -- and where none has one, none is the first
  pub none_first : (e : E) → ((i : ℕ) → refusal_at i ≡ None) → IsFirst refusal_at e → ⊥
  none_first e none first = none-some e (sym (none first.place) ∙ first.is)

  -- some line is the first, or none of the first lines has one
  upto : ℕ → Type 0
  upto n = (i : ℕ) → i < n → refusal_at i ≡ None

  next_line : (n : ℕ) → upto n → (o : Option E) → refusal_at n ≡ o → upto (suc n) ⊎ ((e : E) × IsFirst refusal_at e)
  unfolding upto
  next_line n none None is = inl (λ i l. elim (cases_lt i n) [ inl b ↦ none i b | inr b ↦ subst (λ k. refusal_at k ≡ None) (let same : n ≡ i = omega arith in same) is ])
  next_line n none (Some e) is = inr (e, record { place = n; is = is; none_before = none })

  first_below : (n : ℕ) → upto n ⊎ ((e : E) × IsFirst refusal_at e)
  unfolding upto
  first_below zero = inl (λ i l. absurd (omega arith))
  first_below (suc n) = elim (first_below n) [ inl none ↦ next_line n none (refusal_at n) refl | inr first ↦ inr first ]

  -- where lines from a number on have none, some line is the first or none has one
  pub first_or_none : (n : ℕ) → ((i : ℕ) → n ≤ i → refusal_at i ≡ None) → ((i : ℕ) → refusal_at i ≡ None) ⊎ ((e : E) × IsFirst refusal_at e)
  unfolding upto
  first_or_none n past = elim (first_below n) [ inl none ↦ inl (λ i. elim (cases_lt i n) [ inl b ↦ none i b | inr b ↦ past i b ]) | inr first ↦ inr first ]
