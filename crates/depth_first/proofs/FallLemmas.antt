-- A walk along edges that lead to lower nodes alone comes to no end.
use Rattle.depth_first.proofs.Common.{◌≡◌, ℕ, ◌<◌, List, [], ◌∷◌, Option, None, refl, sym, subst, inl, inr, arith, In, Way, leads, stops, Ending, Meets, met, goes, MeetsAll, none, stop, first, later}

module _ {S : Type 0} (ways : ℕ → List (Way ℕ S)) where
  -- a way that leads below each of these nodes
  abbrev pub LeadsBelow : List ℕ → Way ℕ S → Type 0
  LeadsBelow path (leads m) = (k : ℕ) → In path k → m < k
  LeadsBelow path (stops s) = ⊥

  lower_path : (path : List ℕ) (n : ℕ) → ((k : ℕ) → In path k → n < k) → (w : Way ℕ S) → LeadsBelow (n ∷ []) w → LeadsBelow (n ∷ path) w
  lower_path path n up (stops s) b = b
  lower_path path n up (leads m) b = λ k i.
      let l : m < n = b n (inl refl) in
      elim i [ inl e ↦ subst (λ x. m < x) (sym e) l | inr j ↦ (let u : n < k = up k j in omega arith) ]

  module _ (falls : (n : ℕ) (w : Way ℕ S) → In (ways n) w → LeadsBelow (n ∷ []) w) where
    mutual
      pub falls_through : {path : List ℕ} {n : ℕ} {r : Option (Ending ℕ S)} → Meets ways path n r → ((k : ℕ) → In path k → n < k) → r ≡ None
      falls_through {path} {n} (met i q) up = absurd (let l : n < n = up n i in omega arith)
      falls_through {path} {n} (goes off d) up = all_fall d (λ w i. lower_path path n up w (falls n w i))

      all_fall : {path : List ℕ} {ws : List (Way ℕ S)} {r : Option (Ending ℕ S)} → MeetsAll ways path ws r → ((w : Way ℕ S) → In ws w → LeadsBelow path w) → r ≡ None
      all_fall (none e q) low = q
      all_fall {path} (stop s rest e q) low = absurd (low (stops s) (subst (λ x. In x (stops s)) (sym e) (inl refl)))
      all_fall {path} (first n rest end e d q) low =
          let z = falls_through d (low (leads n) (subst (λ x. In x (leads n)) (sym e) (inl refl))) in absurd cc
      all_fall {path} (later n rest e d ds) low = all_fall ds (λ w i. low w (subst (λ x. In x w) (sym e) (inr i)))

    -- so does a walk from several nodes in turn
    pub all_fall_through : (ws : List (Way ℕ S)) (r : Option (Ending ℕ S)) → MeetsAll ways [] ws r → ((w : Way ℕ S) → In ws w → LeadsBelow [] w) → r ≡ None
    all_fall_through ws r d low = all_fall d low
