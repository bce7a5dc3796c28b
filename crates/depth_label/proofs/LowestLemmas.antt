-- The first of the lowest cuts of an ordered list is its best cut.
use Rattle.depth_label.proofs.Common.{◌≡◌, ℕ, ◌<◌, ◌≤◌, true, cond, ltb, List, [], ◌∷◌, Option, Some, None, refl, sym, ap, ◌∙◌, subst, inl, inr, ◌⊎◌, arith, same_Some, none-some, cases_order, ltb-true, ltb-false, In, height, IsAsGood, lower, tie, IsBestCut, lower_of, lowest, lowest_cut, or_empty}
use Rattle.cut_sets.specs.Sets.{before, IsOrdered}
use Rattle.list_laws.proofs.Choice.{choose}

-- the best of the cuts for which S holds
record BestIn (S : List ℕ → Type 0) (label : ℕ → ℕ) (c : List ℕ) : Type 0 where
  one : S c
  first : (d : List ℕ) → S d → IsAsGood label c d

-- the best so far, or nothing to choose from
State : (S : List ℕ → Type 0) → (ℕ → ℕ) → Option (List ℕ) → Type 0
State S label None = (d : List ℕ) → S d → ⊥
State S label (Some b) = BestIn S label b

-- the same of another way to say S
state_of : (S Q : List ℕ → Type 0) (label : ℕ → ℕ) (o : Option (List ℕ)) → ((d : List ℕ) → S d → Q d) → ((d : List ℕ) → Q d → S d) → State S label o → State Q label o
unfolding State
state_of S Q label None to from s = λ d q. s d (from d q)
state_of S Q label (Some b) to from s = record { one = to b s.one; first = λ d q. s.first d (from d q) }

same_good : (label : ℕ → ℕ) (c d : List ℕ) → d ≡ c → IsAsGood label c d
same_good label c d e = tie (sym (ap (λ x. height label x) e)) (inl (sym e))

lower_good : (label : ℕ → ℕ) (b c d : List ℕ) → height label c < height label b → IsAsGood label b d → IsAsGood label c d
lower_good label b c d l (lower h) = lower (omega arith)
lower_good label b c d l (tie e o) = lower (omega arith)

next_good : (label : ℕ → ℕ) (b c : List ℕ) → before b c ≡ true → height label b ≤ height label c → IsAsGood label b c
next_good label b c h l =
    elim (cases_order (height label b) (height label c)) [
      | inl e ↦ tie e (inr h)
      | inr q ↦ elim q [ inl m ↦ lower m | inr m ↦ absurd (omega arith) ]
    ]

step : (S : List ℕ → Type 0) (label : ℕ → ℕ) (o : Option (List ℕ)) (c : List ℕ) → State S label o → ((d : List ℕ) → S d → before d c ≡ true)
    → State (λ d. S d ⊎ (d ≡ c)) label (lower_of label o c)
unfolding State
step S label None c s prior = record { one = inr refl; first = λ d i. elim i [ inl j ↦ absurd (s d j) | inr e ↦ same_good label c d e ] }
step S label (Some b) c s prior =
    choose (λ o. State (λ d. S d ⊎ (d ≡ c)) label o) (ltb (height label c) (height label b)) (Some c) (Some b)
    (λ t. record {
      one = inr refl;
      first = λ d i. elim i [
        | inl j ↦ lower_good label b c d (ltb-true (height label c) (height label b) t) (s.first d j)
        | inr e ↦ same_good label c d e
      ];
    })
    (λ t. record {
      one = inl s.one;
      first = λ d i. elim i [
        | inl j ↦ s.first d j
        | inr e ↦ subst (λ x. IsAsGood label b x) (sym e) (next_good label b c (prior b s.one) (ltb-false (height label c) (height label b) t))
      ];
    })

lowest_state : (cs : List (List ℕ)) (S : List ℕ → Type 0) (label : ℕ → ℕ) (o : Option (List ℕ)) → State S label o → IsOrdered cs → ((d c : List ℕ) → S d → In cs c → before d c ≡ true)
    → State (λ d. S d ⊎ In cs d) label (lowest label o cs)
lowest_state [] S label o s up prior = state_of S (λ d. S d ⊎ In [] d) label o (λ d i. inl i) (λ d i. elim i [ inl j ↦ j | inr j ↦ absurd j ]) s
lowest_state (c ∷ cs) S label o s up prior =
    state_of (λ d. (S d ⊎ (d ≡ c)) ⊎ In cs d) (λ d. S d ⊎ In (c ∷ cs) d) label (lowest label (lower_of label o c) cs)
    (λ d i. elim i [ inl j ↦ elim j [ inl k ↦ inl k | inr k ↦ inr (inl k) ] | inr j ↦ inr (inr j) ])
    (λ d i. elim i [ inl j ↦ inl (inl j) | inr j ↦ elim j [ inl k ↦ inl (inr k) | inr k ↦ inr k ] ])
    (lowest_state cs (λ d. S d ⊎ (d ≡ c)) label (lower_of label o c) (step S label o c s (λ d i. prior d c i (inl refl))) up.1
    (λ d e i j. elim i [ inl k ↦ prior d e k (inr j) | inr k ↦ subst (λ x. before x e ≡ true) (sym k) (up.0 e j) ]))

best_state : (label : ℕ → ℕ) (cs : List (List ℕ)) (b : List ℕ) (o : Option (List ℕ)) → In cs b → State (λ d. ⊥ ⊎ In cs d) label o → IsBestCut label cs (or_empty o)
unfolding State
best_state label cs b None i s = absurd (s b (inr i))
best_state label cs b (Some c) i s = record { one = elim s.one [ inl j ↦ absurd j | inr j ↦ j ]; first = λ d j. s.first d (inr j) }

no_state : (label : ℕ → ℕ) → State (λ d. ⊥) label None
unfolding State
no_state label = λ d i. i

-- the first of the lowest cuts is the best one, where there is a cut at all
pub lowest_best : (label : ℕ → ℕ) (cs : List (List ℕ)) (b : List ℕ) → IsOrdered cs → In cs b → IsBestCut label cs (lowest_cut label cs)
lowest_best label cs b up i = best_state label cs b (lowest label None cs) i (lowest_state cs (λ d. ⊥) label None (no_state label) up (λ d c j. absurd j))

-- no cut of the list is lower
pub good_low : (label : ℕ → ℕ) (c d : List ℕ) → IsAsGood label c d → height label c ≤ height label d
good_low label c d (lower l) = omega arith
good_low label c d (tie e o) = omega arith

-- labels that agree on the leaves choose the same cut
lower_same : (f h : ℕ → ℕ) (o : Option (List ℕ)) (c : List ℕ) → ((d : List ℕ) → (o ≡ Some d) ⊎ (d ≡ c) → height f d ≡ height h d) → lower_of f o c ≡ lower_of h o c
lower_same f h None c s = refl
lower_same f h (Some b) c s =
    let x : height f c ≡ height h c = s c (inr refl) in
    let y : height f b ≡ height h b = s b (inl refl) in
    ap (λ k. cond (ltb k (height f b)) (Some c) (Some b)) x ∙ ap (λ k. cond (ltb (height h c) k) (Some c) (Some b)) y

lower_from : (f : ℕ → ℕ) (o : Option (List ℕ)) (c d : List ℕ) → lower_of f o c ≡ Some d → (o ≡ Some d) ⊎ (d ≡ c)
lower_from f None c d e = inr (sym (same_Some c d e))
lower_from f (Some b) c d e0 =
    choose (λ x. x ≡ Some d → (Some b ≡ Some d) ⊎ (d ≡ c)) (ltb (height f c) (height f b)) (Some c) (Some b) (λ _ e. inr (sym (same_Some c d e))) (λ _ e. inl e) e0

lowest_same : (f h : ℕ → ℕ) (cs : List (List ℕ)) (o : Option (List ℕ)) → ((d : List ℕ) → (o ≡ Some d) ⊎ In cs d → height f d ≡ height h d) → lowest f o cs ≡ lowest h o cs
lowest_same f h [] o s = refl
lowest_same f h (c ∷ cs) o s =
    lowest_same f h cs (lower_of f o c) (λ d i. elim i [
      | inl e ↦ elim (lower_from f o c d e) [ inl a ↦ s d (inl a) | inr a ↦ s d (inr (inl a)) ]
      | inr j ↦ s d (inr (inr j))
    ])
    ∙ ap (λ b. lowest h b cs) (lower_same f h o c (λ d i. elim i [ inl a ↦ s d (inl a) | inr a ↦ s d (inr (inl a)) ]))

pub lowest_cut_same : (f h : ℕ → ℕ) (cs : List (List ℕ)) → ((d : List ℕ) → In cs d → height f d ≡ height h d) → lowest_cut f cs ≡ lowest_cut h cs
lowest_cut_same f h cs s = ap or_empty (lowest_same f h cs None (λ d i. elim i [ inl e ↦ absurd (none-some d e) | inr j ↦ s d j ]))

-- the chosen cut is of the list, or empty
lowest_from : (f : ℕ → ℕ) (cs : List (List ℕ)) (o : Option (List ℕ)) (d : List ℕ) → lowest f o cs ≡ Some d → (o ≡ Some d) ⊎ In cs d
lowest_from f [] o d e = inl e
lowest_from f (c ∷ cs) o d e =
    elim (lowest_from f cs (lower_of f o c) d e) [
      | inl a ↦ elim (lower_from f o c d a) [ inl b ↦ inl b | inr b ↦ inr (inl b) ]
      | inr i ↦ inr (inr i)
    ]

pub lowest_leaf : (f : ℕ → ℕ) (cs : List (List ℕ)) (n : ℕ) → ((c : List ℕ) (m : ℕ) → In cs c → In c m → m < n) → (o : Option (List ℕ)) → lowest f None cs ≡ o → (m : ℕ) → In (or_empty o) m → m < n
lowest_leaf f cs n below None e m i = absurd i
lowest_leaf f cs n below (Some c) e m i = elim (lowest_from f cs None c e) [ inl a ↦ absurd (none-some c a) | inr j ↦ below c m j i ]
