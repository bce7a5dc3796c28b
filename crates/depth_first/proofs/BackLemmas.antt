-- A walk that comes on, and what is taken back where memory runs out.
use Rattle.depth_first.proofs.Common.{◌≡◌, ℕ, suc, ◌-◌, ◌<◌, ◌≤◌, Option, List, [], ◌∷◌, ◌++◌, length, take, drop, reverse, Some, Result, Ok, Err, IfOk, OnOk, OnErr, refl, sym, ap, ◌∙◌, subst, append_assoc, length-append, take-append-drop, inl, inr, arith, slice_get, slice_set, take-append_seam, drop-append_seam, length-drop, length-reverse, reverse-append, same_Some, In, at_within, set_other, set_length, Edge, Frame, Mark, New, OnPath, Done, End, WalkValue, Followed, passes, stops_at, enters, hits, skips_over, seen, FramesValue, path_of, entered, first_of, advanced, finished, without_begun, renewed, forgotten, renewed_since, taken_back, AreMarks, AreKept, HasGrown, rules}
use Rattle.list_laws.proofs.Members.{In-append, In-right}
use Rattle.depth_first.proofs.ClearLemmas.{forgotten-length, forgotten-get, first_others}

-- the last so many of a reversed list
pub reverse_take : {A : Type 0} (xs : List A) (n : ℕ) → reverse (take n xs) ≡ drop (length xs - n) (reverse xs)
reverse_take xs n =
    let e : reverse xs ≡ reverse (drop n xs) ++ reverse (take n xs) = ap reverse (sym (take-append-drop n xs)) ∙ reverse-append (take n xs) (drop n xs) in
    let l : length (reverse (drop n xs)) ≡ length xs - n = length-reverse (drop n xs) ∙ length-drop n xs in
    sym (ap (drop (length xs - n)) e ∙ subst (λ k. drop k (reverse (drop n xs) ++ reverse (take n xs)) ≡ reverse (take n xs)) l (drop-append_seam (reverse (drop n xs)) (reverse (take n xs))))

abbrev shortened : ℕ → FramesValue → FramesValue
shortened k v = record { marks = v.marks; begun = v.begun; order = drop (length v.order - k) v.order; stack = [] }

pub shorten : (v : FramesValue) (items left : List ℕ) (stack : List Frame) (k : ℕ) → v.order ≡ reverse items → left ≡ take k items → stack ≡ []
    → record { marks = v.marks; begun = v.begun; order = reverse left; stack = reverse stack } ≡ shortened k v
shorten v items left stack k q p r = grind (arith, reverse_take, length-reverse)

pub take_back_is : (begun k : ℕ) (w v : FramesValue) → v ≡ renewed_since begun w → shortened k v ≡ taken_back begun k w
take_back_is begun k w v e = ap (shortened k) e

-- one more of the nodes that were entered last is taken away, and all are
pub renew_within : (v : FramesValue) (n : ℕ) → first_of v.begun ≡ Some n → ((k : ℕ) → In v.begun k → k < length v.marks) → (u : FramesValue) → u ≡ renewed (without_begun v) n
    → (k : ℕ) → In u.begun k → k < length u.marks
renew_within v n f h u e = subst (λ (x : FramesValue). (k : ℕ) → In x.begun k → k < length x.marks) (sym e)
    (λ k i. subst (λ j. k < j) (sym (set_length v.marks n New)) (h k (subst (λ x. In x k) (sym (first_others v.begun n f)) (inr i))))

module _ (v : FramesValue) (count : ℕ) where
  abbrev cut : ℕ → List ℕ → FramesValue
  cut k begun = record { marks = forgotten v.marks (take k begun); begun = drop k begun; order = v.order; stack = v.stack }

  cut_next : (n : ℕ) (rest : List ℕ) → count < length (n ∷ rest) → cut (suc (length rest - count)) (n ∷ rest) ≡ cut (length (n ∷ rest) - count) (n ∷ rest)
  cut_next n rest l = let q : suc (length rest - count) ≡ length (n ∷ rest) - count = omega (arith, l) in ap (λ k. cut k (n ∷ rest)) q

  pub renew_step : (n : ℕ) → first_of v.begun ≡ Some n → count < length v.begun → renewed_since count (renewed (without_begun v) n) ≡ renewed_since count v
  renew_step n e l = grind (arith, first_others, cut_next, cut)

  cut_none : (k : ℕ) (begun : List ℕ) → k ≡ 0 → record { marks = v.marks; begun = begun; order = v.order; stack = v.stack } ≡ cut k begun
  cut_none k [] e = subst (λ j. record { marks = v.marks; begun = []; order = v.order; stack = v.stack } ≡ cut j []) (sym e) refl
  cut_none k (n ∷ ns) e = subst (λ j. record { marks = v.marks; begun = n ∷ ns; order = v.order; stack = v.stack } ≡ cut j (n ∷ ns)) (sym e) refl

  pub renew_end : length v.begun ≤ count → v ≡ renewed_since count v
  renew_end l = cut_none (length v.begun - count) v.begun (omega (arith, l))

-- a walk comes on step by step
pub grown_none : (w : FramesValue) → HasGrown w w
grown_none w = record { since = []; begun = refl; others = λ n i j. i; behind = []; order = refl }

pub grown_on : (w v u : FramesValue) → HasGrown w v → HasGrown v u → HasGrown w u
grown_on w v u g h = record {
  since = h.since ++ g.since;
  begun = h.begun ∙ ap (λ x. h.since ++ x) g.begun ∙ sym (append_assoc h.since g.since w.begun);
  others = λ n i j. elim (In-append h.since g.since n i) [ inl a ↦ h.others n a (subst (λ x. In x n) (sym g.begun) (In-right g.since w.begun n j)) | inr b ↦ g.others n b j ];
  behind = h.behind ++ g.behind;
  order = h.order ∙ ap (λ x. h.behind ++ x) g.order ∙ sym (append_assoc h.behind g.behind w.order);
}

pub grown_entered : (w : FramesValue) (path : List ℕ) (n : ℕ) → AreMarks w.marks w.begun w.order path → slice_get w.marks n ≡ Some New → HasGrown w (entered w n)
grown_entered w path n fit e =
    let new : In w.begun n → ⊥ = λ i. elim (fit.entered n i) [ inl p ↦ (fit.fresh n e).0 p | inr o ↦ (fit.fresh n e).1 o ] in
    record { since = n ∷ []; begun = refl; others = λ k i j. elim i [ inl q ↦ new (subst (λ y. In w.begun y) q j) | inr b ↦ b ]; behind = []; order = refl }

pub grown_finished : (w : FramesValue) (n : ℕ) → HasGrown w (finished w n)
grown_finished w n = record { since = []; begun = refl; others = λ k i j. i; behind = n ∷ []; order = refl }

pub grown_advanced : (w : FramesValue) (f : Frame) → HasGrown w (advanced w f)
grown_advanced w f = record { since = []; begun = refl; others = λ k i j. i; behind = []; order = refl }

module _ {S : Type 0} (w : FramesValue) (path : List ℕ) (fit : AreMarks w.marks w.begun w.order path) (edge : Edge S) where
  pub grown_followed : (v : FramesValue) (found : Option (End S)) → Followed w edge v found → HasGrown w v
  grown_followed v found (passes is q r) = subst (HasGrown w) (sym q) (grown_none w)
  grown_followed v found (stops_at s is q r) = subst (HasGrown w) (sym q) (grown_none w)
  grown_followed v found (enters n is z q r) = subst (HasGrown w) (sym q) (grown_entered w path n fit z)
  grown_followed v found (hits n is z q r) = subst (HasGrown w) (sym q) (grown_none w)
  grown_followed v found (skips_over n is z q r) = subst (HasGrown w) (sym q) (grown_none w)

-- a node that is done has its mark
mark_is_done : (marks : List Mark) (begun order path : List ℕ) → AreMarks marks begun order path → (n : ℕ) → In order n → (m : Mark) → slice_get marks n ≡ Some m → m ≡ Done
mark_is_done marks begun order path fit n i New g = absurd ((fit.fresh n g).1 i)
mark_is_done marks begun order path fit n i OnPath g = absurd (fit.apart n (fit.on n g) i)
mark_is_done marks begun order path fit n i Done g = refl

forgotten-other : (marks : List Mark) (ns : List ℕ) (k : ℕ) → (In ns k → ⊥) → slice_get (forgotten marks ns) k ≡ slice_get marks k
forgotten-other marks [] k o = refl
forgotten-other marks (n ∷ ns) k o = forgotten-other (slice_set marks n New) ns k (λ i. o (inr i)) ∙ set_other marks n k New (λ e. o (inl e))

-- what was joined is taken apart
more_left : {A : Type 0} (xs ys : List A) → length (xs ++ ys) - length ys ≡ length xs
more_left xs ys = let l = length-append xs ys in omega (arith, l)

take_more : {A : Type 0} (zs xs ys : List A) → zs ≡ xs ++ ys → take (length zs - length ys) zs ≡ xs
take_more zs xs ys e = ap (λ z. take (length z - length ys) z) e ∙ ap (λ k. take k (xs ++ ys)) (more_left xs ys) ∙ take-append_seam xs ys

drop_more : {A : Type 0} (zs xs ys : List A) → zs ≡ xs ++ ys → drop (length zs - length ys) zs ≡ ys
drop_more zs xs ys e = ap (λ z. drop (length z - length ys) z) e ∙ ap (λ k. drop k (xs ++ ys)) (more_left xs ys) ∙ drop-append_seam xs ys

abbrev value : ℕ → List ℕ → List ℕ → List ℕ → WalkValue
value c b o p = record { count = c; begun = b; order = o; path = p }

module _ (w v : FramesValue) (fit : AreMarks w.marks w.begun w.order (path_of w.stack)) (empty : w.stack ≡ []) (kept : AreKept w v) (grown : HasGrown w v) where
  no_old_path : (n : ℕ) → In (path_of w.stack) n → ⊥
  no_old_path n i = subst (λ s. In (path_of s) n) empty i

  old_order : (n : ℕ) → In w.begun n → In w.order n
  old_order n i = elim (fit.entered n i) [ inl p ↦ absurd (no_old_path n p) | inr o ↦ o ]

  still_done : (n : ℕ) → In w.order n → In v.order n
  still_done n i = subst (λ x. In x n) (sym grown.order) (In-right grown.behind w.order n i)

  old_begun : (n : ℕ) → (In grown.since n → ⊥) → In v.begun n → In w.begun n
  old_begun n o i = elim (In-append grown.since w.begun n (subst (λ x. In x n) grown.begun i)) [ inl a ↦ absurd (o a) | inr b ↦ b ]

  abbrev marks_back : List Mark
  marks_back = forgotten v.marks grown.since

  not_new : (n : ℕ) → slice_get marks_back n ≡ Some New → In w.order n → ⊥
  not_new n g i = grind (arith, still_done, at_within, mark_is_done, same_Some, forgotten-other)

  not_on_path : (n : ℕ) → slice_get marks_back n ≡ Some OnPath → ⊥
  not_on_path n g = search (rules, forgotten-get, still_done, old_order, old_begun)

  was_done : (n : ℕ) → slice_get marks_back n ≡ Some Done → In w.order n
  was_done n g = search (rules, forgotten-get, old_order, old_begun)

  fits_back : AreMarks marks_back w.begun w.order []
  fits_back = search (rules, forgotten-length, still_done, old_order, not_new, not_on_path, was_done)

  abbrev taken : FramesValue
  taken = taken_back (length w.begun) (length w.order) v

  begun_back : taken.begun ≡ w.begun
  begun_back = drop_more v.begun grown.since w.begun grown.begun

  order_back : taken.order ≡ w.order
  order_back = drop_more v.order grown.behind w.order grown.order

  marks_same : taken.marks ≡ marks_back
  marks_same = ap (forgotten v.marks) (take_more v.begun grown.since w.begun grown.begun)

  count_back : length taken.marks ≡ length w.marks
  count_back = ap length marks_same ∙ forgotten-length v.marks grown.since ∙ kept.long

  seen_taken : seen taken ≡ seen w
  seen_taken = grind (arith, value, count_back, begun_back, order_back)

  kept_taken : AreKept w taken
  kept_taken = search (rules, count_back, marks_same, begun_back, order_back, fits_back)

  -- the answer of a walk, with the state as it was before where memory ran out: it is seen as before, and its marks fit
  module _ (begun order : ℕ) (p : begun ≡ length w.begun) (q : order ≡ length w.order) (u : FramesValue) where
    is_taken : u ≡ taken_back begun order v → u ≡ taken
    is_taken e = e ∙ ap (λ k. taken_back k order v) p ∙ ap (λ k. taken_back (length w.begun) k v) q

    pub went_back : {T E : Type 0} (r found : Result T E) → r ≡ found → OnOk r (u ≡ v) → OnErr r (u ≡ taken_back begun order v) → (P : FramesValue → T → Type 0)
        → IfOk found (P v) → IfOk r (P u) × (OnErr r (seen u ≡ seen w) × AreKept w u)
    went_back (Ok x) found e same back P h = (subst (λ s. P s x) (sym same) (subst (λ y. IfOk y (P v)) (sym e) h), (tt, subst (AreKept w) (sym same) kept))
    went_back (Err x) found e same back P h = (tt, (ap seen (is_taken back) ∙ seen_taken, subst (AreKept w) (sym (is_taken back)) kept_taken))
