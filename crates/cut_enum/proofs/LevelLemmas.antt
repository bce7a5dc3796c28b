-- The sets of one size that are kept: in order, and none with a smaller one within it.
use Rattle.cut_enum.proofs.Common.{◌≡◌, ℕ, ◌+◌, ◌<◌, ◌≤◌, true, false, cond, eqb, ltb, List, [], ◌∷◌, ◌++◌, length, refl, sym, ap, ◌∙◌, subst, inl, inr, ◌⊎◌, arith, list_any, or_cases, or_parts, false≢true, both_ways, eqb-true, eqb-false, ltb-false, In, Within, IsAscending, before, IsOrdered, union, subset, place, add, add_holder, add_holders, add_union, add_unions, add_pairs, leading, holders, unions_at, Covers, choose, In-left, In-right, In-append, before_trans, before_none, before_length, subset_true, subset_from}

-- `place` at a cell
pub place_at : (P : List (List ℕ) → Type 0) (c d : List ℕ) (ds : List (List ℕ)) → (before c d ≡ true → P (c ∷ d ∷ ds)) → (before d c ≡ true → P (d ∷ place c ds)) → (c ≡ d → P (d ∷ ds)) → P (place c (d ∷ ds))
place_at P c d ds first later same = grind (arith, cond, before_none)

pub In-place : (c : List ℕ) (ds : List (List ℕ)) (e : List ℕ) → In (place c ds) e → (e ≡ c) ⊎ In ds e
In-place c [] e h = h
In-place c (d ∷ ds) e h0 =
    place_at (λ s. In s e → (e ≡ c) ⊎ In (d ∷ ds) e) c d ds (λ t h. h)
    (λ t h. elim h [ inl q ↦ inr (inl q) | inr i ↦ elim (In-place c ds e i) [ inl q ↦ inl q | inr j ↦ inr (inr j) ] ])
    (λ t h. inr h) h0

pub place_new : (c : List ℕ) (ds : List (List ℕ)) → In (place c ds) c
place_new c [] = inl refl
place_new c (d ∷ ds) = place_at (λ s. In s c) c d ds (λ t. inl refl) (λ t. inr (place_new c ds)) (λ q. inl q)

pub place_old : (c : List ℕ) (ds : List (List ℕ)) (e : List ℕ) → In ds e → In (place c ds) e
place_old c [] e h = inr h
place_old c (d ∷ ds) e h = place_at (λ s. In s e) c d ds (λ t. inr h) (λ t. elim h [ inl q ↦ inl q | inr i ↦ inr (place_old c ds e i) ]) (λ q. h)

pub IsOrdered-place : (c : List ℕ) (ds : List (List ℕ)) → IsOrdered ds → IsOrdered (place c ds)
IsOrdered-place c [] o = ((λ d i. absurd i), tt)
IsOrdered-place c (d ∷ ds) o =
    place_at IsOrdered c d ds
    (λ t. ((λ e i. elim i [ inl q ↦ subst (λ m. before c m ≡ true) (sym q) t | inr j ↦ before_trans c d e t (o.0 e j) ]), o))
    (λ t. ((λ e i. elim (In-place c ds e i) [ inl q ↦ subst (λ m. before d m ≡ true) (sym q) t | inr j ↦ o.0 e j ]), IsOrdered-place c ds o.1))
    (λ q. o)

length-place : (c : List ℕ) (ds : List (List ℕ)) → length ds ≤ length (place c ds)
length-place c [] = omega arith
length-place c (d ∷ ds) = place_at (λ s. length (d ∷ ds) ≤ length s) c d ds (λ t. omega arith) (λ t. let r : length ds ≤ length (place c ds) = length-place c ds in omega arith) (λ q. omega arith)

pub any_part : (cs : List (List ℕ)) (c : List ℕ) → list_any (λ d. subset d c) cs ≡ true → Covers cs c
any_part [] c h = absurd (false≢true h)
any_part (d ∷ ds) c h = elim (or_cases (subset d c) (list_any (λ e. subset e c) ds) h) [
  | inl t ↦ record { by = d; in' = inl refl; part = subset_true d c t }
  | inr t ↦ (let r : Covers ds c = any_part ds c t in record { by = r.by; in' = inr r.in'; part = r.part })
]

no_part : (cs : List (List ℕ)) (c d : List ℕ) → list_any (λ e. subset e c) cs ≡ false → In cs d → Within d c → ⊥
no_part [] c d h i w = elim i [ ]
no_part (e ∷ es) c d h (inl q) w = both_ways (subset e c) (or_parts (subset e c) (list_any (λ f. subset f c) es) h).0 (subset_from e c (subst (λ m. Within m c) q w))
no_part (e ∷ es) c d h (inr i) w = no_part es c d (or_parts (subset e c) (list_any (λ f. subset f c) es) h).1 i w

-- `add` by its two outcomes
add_at : (P : List (List ℕ) → Type 0) (base : List (List ℕ)) (c : List ℕ) (level : List (List ℕ)) → (Covers base c → P level)
    → (((d : List ℕ) → In base d → Within d c → ⊥) → P (place c level)) → P (add base c level)
add_at P base c level t f = choose P (list_any (λ d. subset d c) base) level (place c level) (λ h. t (any_part base c h)) (λ h. f (λ d i w. no_part base c d h i w))

-- `add_holder` and `add_union` by their two outcomes
holder_at : (P : List (List ℕ) → Type 0) (size : ℕ) (base parts : List (List ℕ)) (d : List ℕ) (level : List (List ℕ))
    → (((length d ≡ size) → Covers parts d → ⊥) → P level) → (length d ≡ size → Covers parts d → P (add base d level)) → P (add_holder size base parts d level)
holder_at P size base parts d level f t =
    choose P (eqb (length d) size) (cond (list_any (λ c. subset c d) parts) (add base d level) level) level
    (λ h. choose P (list_any (λ c. subset c d) parts) (add base d level) level (λ a. t (eqb-true (length d) size h) (any_part parts d a)) (λ a. f (λ l r. no_part parts d r.by a r.in' r.part)))
    (λ h. f (λ l r. eqb-false (length d) size h l))

union_at : (P : List (List ℕ) → Type 0) (size : ℕ) (base : List (List ℕ)) (c d : List ℕ) (level : List (List ℕ)) → ((length (union d c) ≡ size → ⊥) → P level)
    → (length (union d c) ≡ size → P (add base (union d c) level)) → P (add_union size base c d level)
union_at P size base c d level f t = grind arith

-- a union of another size isn't added
pub union-other : (size : ℕ) (base : List (List ℕ)) (c d : List ℕ) (level : List (List ℕ)) → (length (union d c) ≡ size → ⊥) → add_union size base c d level ≡ level
union-other size base c d level n = union_at (λ s. s ≡ level) size base c d level (λ _. refl) (λ l. absurd (n l))

-- What adding a good set of size elements keeps, adding many keeps.
module _ (size : ℕ) (base : List (List ℕ)) (P : List (List ℕ) → Type 0) (IsGood : List ℕ → Type 0)
    (step : (c : List ℕ) (level : List (List ℕ)) → length c ≡ size → IsGood c → P level → P (add base c level)) where
  pub holder_keeps : (parts : List (List ℕ)) (d : List ℕ) (level : List (List ℕ)) → (Covers parts d → IsGood d) → P level → P (add_holder size base parts d level)
  holder_keeps parts d level good h = holder_at P size base parts d level (λ _. h) (λ l r. step d level l (good r) h)

  pub holders_keep : (parts ds level : List (List ℕ)) → ((d : List ℕ) → In ds d → Covers parts d → IsGood d) → P level → P (add_holders size base parts ds level)
  holders_keep parts [] level good h = h
  holders_keep parts (d ∷ ds) level good h = holders_keep parts ds (add_holder size base parts d level) (λ e i. good e (inr i)) (holder_keeps parts d level (good d (inl refl)) h)

  pub union_keeps : (c d : List ℕ) (level : List (List ℕ)) → IsGood (union d c) → P level → P (add_union size base c d level)
  union_keeps c d level good h = union_at P size base c d level (λ _. h) (λ l. step (union d c) level l good h)

  pub unions_keep : (c : List ℕ) (ds level : List (List ℕ)) → ((d : List ℕ) → In ds d → IsGood (union d c)) → P level → P (add_unions size base c ds level)
  unions_keep c [] level good h = h
  unions_keep c (d ∷ ds) level good h = unions_keep c ds (add_union size base c d level) (λ e i. good e (inr i)) (union_keeps c d level (good d (inl refl)) h)

  pub pairs_keep : (cs ds level : List (List ℕ)) → ((c d : List ℕ) → In cs c → In ds d → IsGood (union d c)) → P level → P (add_pairs size base cs ds level)
  pairs_keep [] ds level good h = h
  pairs_keep (c ∷ cs) ds level good h = pairs_keep cs ds (add_unions size base c ds level) (λ e d i j. good e d (inr i) j) (unions_keep c ds level (λ d j. good c d (inl refl) j) h)

-- the sets at the head of a list
pub In-leading : (size : ℕ) (cs : List (List ℕ)) (c : List ℕ) → In (leading size cs) c → In cs c
In-leading size [] c h = absurd h
In-leading size (d ∷ ds) c h0 =
    choose (λ s. In s c → In (d ∷ ds) c) (ltb (length d) size) (d ∷ leading size ds) []
    (λ _ h. elim h [ inl e ↦ inl e | inr i ↦ inr (In-leading size ds c i) ]) (λ _ h. absurd h) h0

-- the sizes do not fall
abbrev pub IsRising : List (List ℕ) → Type 0
IsRising [] = Unit {0}
IsRising (c ∷ cs) = ((d : List ℕ) → In cs d → length c ≤ length d) × IsRising cs

pub IsRising-ordered : (cs : List (List ℕ)) → IsOrdered cs → IsRising cs
IsRising-ordered [] o = tt
IsRising-ordered (c ∷ cs) o = ((λ d i. before_length c d (o.0 d i)), IsRising-ordered cs o.1)

pub first_least : (c : List ℕ) (cs : List (List ℕ)) (d : List ℕ) → IsRising (c ∷ cs) → In (c ∷ cs) d → length c ≤ length d
first_least c cs d r (inl e) = let q : length d ≡ length c = ap length e in omega arith
first_least c cs d r (inr i) = r.0 d i

-- where the sizes do not fall, each small set is among those at the head
pub leading_in : (size : ℕ) (cs : List (List ℕ)) (d : List ℕ) → IsRising cs → In cs d → length d < size → In (leading size cs) d
leading_in size [] d r h l = absurd h
leading_in size (c ∷ cs) d r h0 l =
    choose (λ s. In (c ∷ cs) d → In s d) (ltb (length c) size) (c ∷ leading size cs) []
    (λ _ h. elim h [ inl e ↦ inl e | inr i ↦ inr (leading_in size cs d r.1 i l) ])
    (λ t h. let a : size ≤ length c = ltb-false (length c) size t in let b : length c ≤ length d = first_least c cs d r h in absurd (omega arith)) h0

-- The sets of size elements that were kept, beside a list of smaller ones.
pub record IsLevel (size : ℕ) (base level : List (List ℕ)) : Type 0 where
  pub exact : (c : List ℕ) → In level c → length c ≡ size
  pub ascending : (c : List ℕ) → In level c → IsAscending c
  pub clear : (c d : List ℕ) → In level c → In base d → Within d c → ⊥
  pub ordered : IsOrdered level

pub IsLevel-none : (size : ℕ) (base : List (List ℕ)) → IsLevel size base []
IsLevel-none size base = record { exact = λ c i. absurd i; ascending = λ c i. absurd i; clear = λ c d i j w. absurd i; ordered = tt }

pub IsLevel-add : (size : ℕ) (base : List (List ℕ)) (c : List ℕ) (level : List (List ℕ)) → length c ≡ size → IsAscending c → IsLevel size base level → IsLevel size base (add base c level)
IsLevel-add size base c level l up ok =
    add_at (λ s. IsLevel size base s) base c level (λ _. ok)
    (λ none. record {
      exact = λ d i. elim (In-place c level d i) [ inl q ↦ ap length q ∙ l | inr j ↦ ok.exact d j ];
      ascending = λ d i. elim (In-place c level d i) [ inl q ↦ subst IsAscending (sym q) up | inr j ↦ ok.ascending d j ];
      clear = λ d b i j w. elim (In-place c level d i) [ inl q ↦ none b j (subst (λ m. Within b m) q w) | inr m ↦ ok.clear d b m j w ];
      ordered = IsOrdered-place c level ok.ordered;
    })

-- nothing is dropped again
pub length-add : (base : List (List ℕ)) (c : List ℕ) (level : List (List ℕ)) → length level ≤ length (add base c level)
length-add base c level = add_at (λ s. length level ≤ length s) base c level (λ _. omega arith) (λ _. length-place c level)

pub add_only : (base : List (List ℕ)) (c : List ℕ) (level : List (List ℕ)) (e : List ℕ) → In (add base c level) e → (e ≡ c) ⊎ In level e
add_only base c level e h0 = add_at (λ s. In s e → (e ≡ c) ⊎ In level e) base c level (λ r h. inr h) (λ r h. In-place c level e h) h0

Covers-left : (xs ys : List (List ℕ)) (z : List ℕ) → Covers xs z → Covers (xs ++ ys) z
Covers-left xs ys z r = record { by = r.by; in' = In-left xs ys r.by r.in'; part = r.part }

Covers-right : (xs ys : List (List ℕ)) (z : List ℕ) → Covers ys z → Covers (xs ++ ys) z
Covers-right xs ys z r = record { by = r.by; in' = In-right xs ys r.by r.in'; part = r.part }

pub add_covers_new : (base : List (List ℕ)) (c : List ℕ) (level : List (List ℕ)) → Covers (base ++ add base c level) c
add_covers_new base c level =
    add_at (λ s. Covers (base ++ s) c) base c level (λ r. Covers-left base level c r)
    (λ _. Covers-right base (place c level) c (record { by = c; in' = place_new c level; part = λ n i. i }))

-- what was covered stays so
covers_placed : (base : List (List ℕ)) (c : List ℕ) (level : List (List ℕ)) (z : List ℕ) → Covers (base ++ level) z → Covers (base ++ place c level) z
covers_placed base c level z r = record {
  by = r.by;
  in' = elim (In-append base level r.by r.in') [ inl i ↦ In-left base (place c level) r.by i | inr i ↦ In-right base (place c level) r.by (place_old c level r.by i) ];
  part = r.part;
}

pub add_covers_old : (base : List (List ℕ)) (c : List ℕ) (level : List (List ℕ)) (z : List ℕ) → Covers (base ++ level) z → Covers (base ++ add base c level) z
add_covers_old base c level z r = add_at (λ s. Covers (base ++ s) z) base c level (λ _. r) (λ _. covers_placed base c level z r)

module _ (size : ℕ) (base : List (List ℕ)) where
  holders_old : (parts ds level : List (List ℕ)) (z : List ℕ) → Covers (base ++ level) z → Covers (base ++ add_holders size base parts ds level) z
  holders_old parts ds level z r = holders_keep size base (λ s. Covers (base ++ s) z) (λ _. Unit {0}) (λ c s l g h. add_covers_old base c s z h) parts ds level (λ d i c. tt) r

  unions_old : (c : List ℕ) (ds level : List (List ℕ)) (z : List ℕ) → Covers (base ++ level) z → Covers (base ++ add_unions size base c ds level) z
  unions_old c ds level z r = unions_keep size base (λ s. Covers (base ++ s) z) (λ _. Unit {0}) (λ c s l g h. add_covers_old base c s z h) c ds level (λ d i. tt) r

  pairs_old : (cs ds level : List (List ℕ)) (z : List ℕ) → Covers (base ++ level) z → Covers (base ++ add_pairs size base cs ds level) z
  pairs_old cs ds level z r = pairs_keep size base (λ s. Covers (base ++ s) z) (λ _. Unit {0}) (λ c s l g h. add_covers_old base c s z h) cs ds level (λ c d i j. tt) r

  -- each holder and each union of size elements is covered
  holder_covers : (parts : List (List ℕ)) (d : List ℕ) (level : List (List ℕ)) → length d ≡ size → Covers parts d → Covers (base ++ add_holder size base parts d level) d
  holder_covers parts d level l r = holder_at (λ s. Covers (base ++ s) d) size base parts d level (λ n. absurd (n l r)) (λ _ _. add_covers_new base d level)

  holders_cover : (parts ds level : List (List ℕ)) (d : List ℕ) → In ds d → length d ≡ size → Covers parts d → Covers (base ++ add_holders size base parts ds level) d
  holders_cover parts [] level d i l r = absurd i
  holders_cover parts (e ∷ ds) level d (inl q) l r = grind (arith, holders_old, holder_covers)
  holders_cover parts (e ∷ ds) level d (inr i) l r = holders_cover parts ds (add_holder size base parts e level) d i l r

  union_covers : (c d : List ℕ) (level : List (List ℕ)) → length (union d c) ≡ size → Covers (base ++ add_union size base c d level) (union d c)
  union_covers c d level l = union_at (λ s. Covers (base ++ s) (union d c)) size base c d level (λ n. absurd (n l)) (λ _. add_covers_new base (union d c) level)

  unions_cover : (c : List ℕ) (ds level : List (List ℕ)) (d : List ℕ) → In ds d → length (union d c) ≡ size → Covers (base ++ add_unions size base c ds level) (union d c)
  unions_cover c [] level d i l = absurd i
  unions_cover c (e ∷ ds) level d (inl q) l = grind (arith, unions_old, union_covers)
  unions_cover c (e ∷ ds) level d (inr i) l = unions_cover c ds (add_union size base c e level) d i l

  pairs_cover : (cs ds level : List (List ℕ)) (c d : List ℕ) → In cs c → In ds d → length (union d c) ≡ size → Covers (base ++ add_pairs size base cs ds level) (union d c)
  pairs_cover [] ds level c d i j l = absurd i
  pairs_cover (e ∷ cs) ds level c d (inl q) j l = grind (arith, pairs_old, unions_cover)
  pairs_cover (e ∷ cs) ds level c d (inr i) j l = pairs_cover cs ds (add_unions size base e ds level) c d i j l

  module _ (xs ys : List (List ℕ)) where
    -- Each union of size elements is covered, if one of both has them all.
    pub left_covered : (c d : List ℕ) → IsRising ys → In xs c → In ys d → length c ≡ size → length d ≤ size → Within d c → Covers (base ++ unions_at size base xs ys) c
    left_covered c d rises i j l m w =
        let parts = leading (size + 1) ys in
        let r : Covers parts c = record { by = d; in' = leading_in (size + 1) ys d rises j (omega arith); part = w } in
        pairs_old (leading size xs) (leading size ys) (holders size base xs ys) c
        (holders_old (leading size xs) ys (add_holders size base parts xs []) c (holders_cover parts xs [] c i l r))

    pub right_covered : (c d : List ℕ) → IsRising xs → In xs c → In ys d → length d ≡ size → length c < size → Within c d → Covers (base ++ unions_at size base xs ys) d
    right_covered c d rises i j l m w =
        let r : Covers (leading size xs) d = record { by = c; in' = leading_in size xs c rises i m; part = w } in
        pairs_old (leading size xs) (leading size ys) (holders size base xs ys) d
        (holders_cover (leading size xs) ys (add_holders size base (leading (size + 1) ys) xs []) d j l r)

    -- Or if both have fewer.
    pub both_covered : (c d : List ℕ) → IsRising xs → IsRising ys → In xs c → In ys d → length c < size → length d < size → length (union d c) ≡ size → Covers (base ++ unions_at size base xs ys) (union d c)
    both_covered c d rises falls i j m n l = pairs_cover (leading size xs) (leading size ys) (holders size base xs ys) c d (leading_in size xs c rises i m) (leading_in size ys d falls j n) l

-- what is made on the way is no longer than what is made in the end
module _ (size : ℕ) (base : List (List ℕ)) (least : List (List ℕ)) where
  more_there : (c : List ℕ) (level : List (List ℕ)) → length c ≡ size → Unit {0} → length least ≤ length level → length least ≤ length (add base c level)
  more_there c level l g h = let m : length level ≤ length (add base c level) = length-add base c level in omega arith

  pub length-holders : (parts ds level : List (List ℕ)) → length least ≤ length level → length least ≤ length (add_holders size base parts ds level)
  length-holders parts ds level h = holders_keep size base (λ s. length least ≤ length s) (λ _. Unit {0}) more_there parts ds level (λ d i c. tt) h

  pub length-unions : (c : List ℕ) (ds level : List (List ℕ)) → length least ≤ length level → length least ≤ length (add_unions size base c ds level)
  length-unions c ds level h = unions_keep size base (λ s. length least ≤ length s) (λ _. Unit {0}) more_there c ds level (λ d i. tt) h

  pub length-pairs : (cs ds level : List (List ℕ)) → length least ≤ length level → length least ≤ length (add_pairs size base cs ds level)
  length-pairs cs ds level h = pairs_keep size base (λ s. length least ≤ length s) (λ _. Unit {0}) more_there cs ds level (λ c d i j. tt) h
