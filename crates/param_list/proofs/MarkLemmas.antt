-- The marks of inputs whose names are among others, and the places of those that are off.
use Rattle.param_list.proofs.Common.{◌≡◌, ℕ, zero, suc, ◌+◌, Bool, true, false, not, cond, ◌||◌, List, [], ◌∷◌, ◌++◌, length, map, Option, Some, replicate, bytes_eq, slice_set, refl, sym, ap, ◌∙◌, subst, inl, inr, arith, filter, slice_get, or_left, or_right, none-some, same_Some, In, In-get, map_agree, AreOnce, has_name, has_one_more, no_match, or_nothing, marks_of, off_places}
use lib.Pointwise.{bytes_decides}
use Rattle.list_laws.specs.Order.{IsAscending}

-- nothing is marked at first
pub no_marks : (inputs : List (List ℕ)) → replicate (length inputs) false ≡ marks_of inputs []
no_marks [] = refl
no_marks (x ∷ xs) = ap (λ l. false ∷ l) (no_marks xs)

has_other : (names : List (List ℕ)) (name x : List ℕ) → (x ≡ name → ⊥) → has_name (names ++ name ∷ []) x ≡ has_name names x
has_other names name x other = has_one_more names name x ∙ or_nothing (has_name names x) (bytes_eq x name) (no_match x name other)

pub has_this : (names : List (List ℕ)) (name : List ℕ) → has_name (names ++ name ∷ []) name ≡ true
has_this names name = has_one_more names name name ∙ or_right (has_name names name) (bytes_eq name name || false) (or_left (bytes_eq name name) false ((bytes_decides name name).1 refl))

-- its input is marked
pub mark_set : (inputs names : List (List ℕ)) (k : ℕ) (name : List ℕ) → AreOnce inputs → slice_get inputs k ≡ Some name → slice_set (marks_of inputs names) k true ≡ marks_of inputs (names ++ name ∷ [])
mark_set [] names k name once at = absurd (none-some name at)
mark_set (x ∷ xs) names zero name once at =
    let e : x ≡ name = same_Some x name at in
    ap (λ b. b ∷ marks_of xs names) (sym (has_this names name) ∙ ap (has_name (names ++ name ∷ [])) (sym e))
    ∙ ap (λ l. has_name (names ++ name ∷ []) x ∷ l) (sym (map_agree (has_name (names ++ name ∷ [])) (has_name names) xs (λ y i. has_other names name y (λ f. once.0 (subst (In xs) (f ∙ sym e) i)))))
mark_set (x ∷ xs) names (suc k) name once at =
    ap (λ b. b ∷ slice_set (marks_of xs names) k true) (sym (has_other names name x (λ e. once.0 (subst (In xs) (sym e) (In-get xs k name at)))))
    ∙ ap (λ l. has_name (names ++ name ∷ []) x ∷ l) (mark_set xs names k name once.1 at)

-- a place stands exactly where its mark is off
pub record IsOff (at : ℕ) (marks : List Bool) (i : ℕ) : Type 0 where
  pub place : ℕ
  pub is : i ≡ at + place
  pub off : slice_get marks place ≡ Some false

later_off : (at : ℕ) (b : Bool) (marks : List Bool) (i : ℕ) → IsOff (at + 1) marks i → IsOff at (b ∷ marks) i
later_off at b marks i o = record { place = suc o.place; is = (let e : i ≡ at + 1 + o.place = o.is in omega arith); off = o.off }

pub off_in : (at : ℕ) (marks : List Bool) (i : ℕ) → In (off_places at marks) i → IsOff at marks i
off_in at [] i j = absurd j
off_in at (true ∷ marks) i j = later_off at true marks i (off_in (at + 1) marks i j)
off_in at (false ∷ marks) i (inl e) = record { place = 0; is = (let f : i ≡ at = e in omega arith); off = refl }
off_in at (false ∷ marks) i (inr j) = later_off at false marks i (off_in (at + 1) marks i j)

pub in_off : (at : ℕ) (marks : List Bool) (k : ℕ) → slice_get marks k ≡ Some false → In (off_places at marks) (at + k)
in_off at [] k e = absurd (none-some false e)
in_off at (true ∷ marks) zero e = absurd (let f : true ≡ false = same_Some true false e in let wrong : ⊥ = cc in wrong)
in_off at (true ∷ marks) (suc k) e = let n : at + 1 + k ≡ at + suc k = omega arith in subst (In (off_places (at + 1) marks)) n (in_off (at + 1) marks k e)
in_off at (false ∷ marks) zero e = inl (let n : at + 0 ≡ at = omega arith in n)
in_off at (false ∷ marks) (suc k) e = let n : at + 1 + k ≡ at + suc k = omega arith in inr (subst (In (off_places (at + 1) marks)) n (in_off (at + 1) marks k e))

pub off_ascending : (at : ℕ) (marks : List Bool) → IsAscending (off_places at marks)
off_ascending at [] = tt
off_ascending at (true ∷ marks) = off_ascending (at + 1) marks
off_ascending at (false ∷ marks) = (λ n i. let o : IsOff (at + 1) marks n = off_in (at + 1) marks n i in let e : n ≡ at + 1 + o.place = o.is in omega arith, off_ascending (at + 1) marks)

-- the names at these places
named_off : (b : Bool) (get : ℕ → Option (List ℕ)) (at : ℕ) (x : List ℕ) (marks : List Bool) (kept : List (List ℕ)) → get at ≡ Some x → map get (off_places (at + 1) marks) ≡ map (λ n. Some n) kept
    → map get (off_places at (b ∷ marks)) ≡ map (λ n. Some n) (cond (not b) (x ∷ kept) kept)
named_off true get at x marks kept here rest = rest
named_off false get at x marks kept here rest = ap (λ o. o ∷ map get (off_places (at + 1) marks)) here ∙ ap (λ l. Some x ∷ l) rest

pub off_names : (get : ℕ → Option (List ℕ)) (at : ℕ) (inputs names : List (List ℕ)) → ((k : ℕ) → get (at + k) ≡ slice_get inputs k)
    → map get (off_places at (marks_of inputs names)) ≡ map (λ n. Some n) (filter (λ name. not (has_name names name)) inputs)
off_names get at [] names same = refl
off_names get at (x ∷ xs) names same =
    let zero_more : at + 0 ≡ at = omega arith in
    named_off (has_name names x) get at x (marks_of xs names) (filter (λ name. not (has_name names name)) xs) (ap get (sym zero_more) ∙ same 0)
    (off_names get (at + 1) xs names (λ k. let n : at + 1 + k ≡ at + suc k = omega arith in ap get n ∙ same (suc k)))
