-- The pairs of a graph only grow, and a product that was made stays made.
use Rattle.aig_core.proofs.Common.{◌≡◌, ℕ, ◌+◌, ◌/◌, ◌<◌, ◌≤◌, Bool, true, eqb, List, [], ◌∷◌, ◌++◌, length, get_or, Option, Some, None, refl, sym, ap, ◌∙◌, arith, length-append, append_assoc, append-nil, position, slice_get-get_or, position-Some, get_or-append, and_from, eq-eqb, Pair, is_pair, Answer, and_in_order, found_or_new, choose_one, choose_both, fails_everywhere, position_is}
use Rattle.std.proofs.Math.Seq.{get_or-append_seam}

-- qs are ps and maybe more
pub record Extends (ps qs : List Pair) : Type 0 where
  pub more : List Pair
  pub is : qs ≡ ps ++ more

pub Extends-refl : (ps : List Pair) → Extends ps ps
Extends-refl ps = record { more = []; is = sym (append-nil ps) }

pub Extends-trans : (ps qs rs : List Pair) → Extends ps qs → Extends qs rs → Extends ps rs
Extends-trans ps qs rs a b = record { more = a.more ++ b.more; is = b.is ∙ ap (λ l. l ++ b.more) a.is ∙ append_assoc ps a.more b.more }

-- so they are as many at least
pub length-Extends : (ps qs : List Pair) → Extends ps qs → length ps ≤ length qs
length-Extends ps qs e = let n : length qs ≡ length ps + length e.more = ap length e.is ∙ length-append ps e.more in omega arith

-- a place that is found stays found
found_stays : (test : Pair → Bool) (ps qs : List Pair) (i : ℕ) (d : Pair) → Extends ps qs → position test ps ≡ Some i → position test qs ≡ Some i
found_stays test ps qs i d e at =
    let h = position-Some test ps i d at in
    let n : length (ps ++ e.more) ≡ length ps + length e.more = length-append ps e.more in
    let same : (k : ℕ) → k < length ps → get_or (ps ++ e.more) k d ≡ get_or ps k d = λ k l. get_or-append ps e.more d k l in
    ap (λ l. position test l) e.is
    ∙ position_is test (ps ++ e.more) i d (let l : i < length ps = h.0 in omega arith) (rw (same i h.0) h.1)
    (λ k l. rw (same k (let m : i < length ps = h.0 in omega arith)) (h.2 k l))

-- a new pair is found where it was put
new_found : (test : Pair → Bool) (ps qs : List Pair) (p : Pair) → Extends (ps ++ p ∷ []) qs → position test ps ≡ None → test p ≡ true → position test qs ≡ Some (length ps)
new_found test ps qs p e none here =
    let regroup : qs ≡ ps ++ (p ∷ e.more) = e.is ∙ append_assoc ps (p ∷ []) e.more in
    let n : length (ps ++ (p ∷ e.more)) ≡ length ps + length (p ∷ e.more) = length-append ps (p ∷ e.more) in
    ap (λ l. position test l) regroup
    ∙ position_is test (ps ++ (p ∷ e.more)) (length ps) p (omega arith) (rw (get_or-append_seam ps p e.more p) here)
    (λ k l. rw (get_or-append ps (p ∷ e.more) p k l) (fails_everywhere test ps k (get_or ps k p) none (slice_get-get_or ps k p l)))

pair_here : (x y : ℕ) → is_pair x y (record { x = record { 0 = x }; y = record { 0 = y } }) ≡ true
pair_here x y = and_from (eqb x x) (eqb y y) (eq-eqb x x refl) (eq-eqb y y refl)

-- the answer is the same over any pairs that extend those that it left
abbrev Stays : List Pair → Answer → Answer → Type 0
Stays qs a b = Extends a.pairs qs → b ≡ record { pairs = qs; lit = a.lit }

found_or_new_again : (first : ℕ) (ps qs : List Pair) (x y : ℕ) (o : Option ℕ) → position (is_pair x y) ps ≡ o → Stays qs (found_or_new first ps x y o) (found_or_new first qs x y (position (is_pair x y) qs))
found_or_new_again first ps qs x y (Some i) at e = ap (λ o. found_or_new first qs x y o) (found_stays (is_pair x y) ps qs i (record { x = record { 0 = x }; y = record { 0 = y } }) e at)
found_or_new_again first ps qs x y None at e = ap (λ o. found_or_new first qs x y o) (new_found (is_pair x y) ps qs (record { x = record { 0 = x }; y = record { 0 = y } }) e at (pair_here x y))

pub and_again : (first : ℕ) (ps qs : List Pair) (x y : ℕ) → Stays qs (and_in_order first ps x y) (and_in_order first qs x y)
and_again first ps qs x y =
    choose_both (Stays qs) (eqb x 0) _ _ _ _ (λ e. refl)
    (choose_both (Stays qs) (eqb x 1) _ _ _ _ (λ e. refl)
    (choose_both (Stays qs) (eqb x y) _ _ _ _ (λ e. refl)
    (choose_both (Stays qs) (eqb (x / 2) (y / 2)) _ _ _ _ (λ e. refl)
    (found_or_new_again first ps qs x y (position (is_pair x y) ps) refl))))

-- `and` only adds
new_grows : (first : ℕ) (ps : List Pair) (x y : ℕ) (o : Option ℕ) → Extends ps (found_or_new first ps x y o).pairs
new_grows first ps x y (Some i) = Extends-refl ps
new_grows first ps x y None = record { more = record { x = record { 0 = x }; y = record { 0 = y } } ∷ []; is = refl }

pub and_grows : (first : ℕ) (ps : List Pair) (x y : ℕ) → Extends ps (and_in_order first ps x y).pairs
and_grows first ps x y =
    let P : Answer → Type 0 = λ a. Extends ps a.pairs in
    choose_one P (eqb x 0) _ _ (Extends-refl ps)
    (choose_one P (eqb x 1) _ _ (Extends-refl ps)
    (choose_one P (eqb x y) _ _ (Extends-refl ps)
    (choose_one P (eqb (x / 2) (y / 2)) _ _ (Extends-refl ps)
    (new_grows first ps x y (position (is_pair x y) ps)))))
