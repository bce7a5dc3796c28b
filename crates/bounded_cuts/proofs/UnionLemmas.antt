-- Unions of the cuts of two lists.
use Rattle.bounded_cuts.proofs.Common.{◌≡◌, ℕ, ◌+◌, ◌*◌, ◌<◌, ◌≤◌, List, [], ◌∷◌, ◌++◌, length, get_or, take, sym, ap, subst, ◌∙◌, true, false, suc, inl, inr, ◌⊎◌, arith, length-append, append-nil, append_assoc, In, In-push, get_or_from_slice_get, slice_get_within, Some, slice_get, take_more, ltb, suc-mul, add_comm, union, one_union, unions_with, unions, Bool, cond}
use Rattle.bounded_cuts.proofs.Common.{Candidate, Worth, AreCounted, In-union, ArePricedBy, IsPricedBy, Some, slice_get, take_more, ltb, suc-mul, add_comm, union, one_union, unions_with, unions, Bool, cond}

pub with_push : (k : ℕ) (c : List ℕ) (ds : List (List ℕ)) (d : List ℕ) → unions_with k c (ds ++ d ∷ []) ≡ unions_with k c ds ++ one_union k c d
with_push k c [] d = append-nil (one_union k c d)
with_push k c (e ∷ ds) d = ap (λ (l : List (List ℕ)). one_union k c e ++ l) (with_push k c ds d) ∙ sym (append_assoc (one_union k c e) (unions_with k c ds) (one_union k c d))

pub unions_push : (k : ℕ) (cs ds : List (List ℕ)) (c : List ℕ) → unions k (cs ++ c ∷ []) ds ≡ unions k cs ds ++ unions_with k c ds
unions_push k [] ds c = append-nil (unions_with k c ds)
unions_push k (e ∷ cs) ds c = ap (λ (l : List (List ℕ)). unions_with k e ds ++ l) (unions_push k cs ds c) ∙ sym (append_assoc (unions_with k e ds) (unions k cs ds) (unions_with k c ds))

-- a list up to its next element
pub take_next : {A : Type 0} (xs : List A) (i : ℕ) (x : A) → slice_get xs i ≡ Some x → take (i + 1) xs ≡ take i xs ++ x ∷ []
take_next {A = A} xs i x e = take_more xs i x (slice_get_within xs i x e) ∙ ap (λ (y : A). take i xs ++ y ∷ []) (get_or_from_slice_get xs i x x e)

pub next_taken : {A : Type 0} (xs : List A) (i : ℕ) (x y : A) → i < length xs → x ≡ get_or xs i x → In (take (i + 1) xs) y → In (take i xs) y ⊎ (y ≡ x)
next_taken {A = A} xs i x y l e m = In-push (take i xs) x y (subst (λ (zs : List A). In zs y) (take_more xs i x l ∙ ap (λ (z : A). take i xs ++ z ∷ []) (sym e)) m)

pub union_counted : (ws : List Worth) (c d u : List ℕ) → AreCounted ws c → AreCounted ws d → u ≡ union c d → AreCounted ws u
union_counted ws c d u h k e m i = elim (In-union c d m (subst (λ (l : List ℕ). In l m) e i)) [ inl j ↦ h m j | inr j ↦ k m j ]

pub priced_push : (ws : List Worth) (cs : List Candidate) (c : Candidate) → IsPricedBy ws c → ArePricedBy ws cs → ArePricedBy ws (cs ++ c ∷ [])
priced_push ws cs c is are d m = elim (In-push cs c d m) [ inl k ↦ are d k | inr e ↦ subst (IsPricedBy ws) (sym e) is ]

-- the unions of one more cut
pub with_next : (k : ℕ) (c : List ℕ) (front : List (List ℕ)) (i : ℕ) (d : List ℕ) (old now next : List (List ℕ)) → i < length front → d ≡ get_or front i d → now ≡ old ++ unions_with k c (take i front) → next ≡ now ++ one_union k c d → next ≡ old ++ unions_with k c (take (i + 1) front)
with_next k c front i d old now next l e was is =
    is ∙ ap (λ (m : List (List ℕ)). m ++ one_union k c d) was ∙ append_assoc old (unions_with k c (take i front)) (one_union k c d)
    ∙ ap (λ (m : List (List ℕ)). old ++ m) (sym (with_push k c (take i front) d) ∙ ap (unions_with k c) (sym (take_more front i d l ∙ ap (λ (z : List ℕ). take i front ++ z ∷ []) (sym e))))

pub unions_next : (k : ℕ) (front ds : List (List ℕ)) (i : ℕ) (c : List ℕ) (old now next : List (List ℕ)) → i < length front → c ≡ get_or front i c → now ≡ old ++ unions k (take i front) ds → next ≡ now ++ unions_with k c ds → next ≡ old ++ unions k (take (i + 1) front) ds
unions_next k front ds i c old now next l e was is =
    let more : take (i + 1) front ≡ take i front ++ c ∷ [] = take_more front i c l ∙ ap (λ (z : List ℕ). take i front ++ z ∷ []) (sym e) in
    grind (arith, append_assoc, unions_push)

suc_times : (n m : ℕ) → suc n * m ≡ m + n * m
suc_times n m = suc-mul n m ∙ add_comm (n * m) m

-- how many unions there are
one_length : (k : ℕ) (c d : List ℕ) → length (one_union k c d) ≤ 1
one_length k c d = grind arith

with_length : (k : ℕ) (c : List ℕ) (ds : List (List ℕ)) → length (unions_with k c ds) ≤ length ds
with_length k c [] = omega arith
with_length k c (d ∷ ds) = omega (arith, length-append (one_union k c d) (unions_with k c ds), one_length k c d, with_length k c ds)

pub unions_length : (k : ℕ) (cs ds : List (List ℕ)) (m : ℕ) → length ds ≤ m → length (unions k cs ds) ≤ length cs * m
unions_length k [] ds m l = omega arith
unions_length k (c ∷ cs) ds m l = grind (arith, with_length, suc_times, length-append, unions_length k cs ds m l)
