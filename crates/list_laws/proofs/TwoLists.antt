-- Places in two lists: after the first of two joined lists, and in two lists of one length.
use Rattle.list_laws.proofs.Common.{◌≡◌, ◌⊎◌, ℕ, zero, suc, ◌+◌, List, [], ◌∷◌, ◌++◌, length, Some, refl, sym, subst, inl, inr, arith, slice_get, none-some, same_Some}

pub get_right : {A : Type 0} (xs ys : List A) (i : ℕ) (x : A) → slice_get ys i ≡ Some x → slice_get (xs ++ ys) (length xs + i) ≡ Some x
get_right [] ys i x e = subst (λ n. slice_get ys n ≡ Some x) (let q : i ≡ 0 + i = omega arith in q) e
get_right (y ∷ xs) ys i x e = subst (λ n. slice_get (y ∷ (xs ++ ys)) n ≡ Some x) (let q : suc (length xs + i) ≡ suc (length xs) + i = omega arith in q) (get_right xs ys i x e)

-- where one list has an element, so has the other
pub item_there : {A B : Type 0} (xs : List A) (ys : List B) (i : ℕ) (x : A) → length xs ≡ length ys → slice_get xs i ≡ Some x → (y : B) × (slice_get ys i ≡ Some y)
item_there [] ys i x n e = absurd (none-some x e)
item_there (z ∷ xs) [] i x n e = absurd (omega arith)
item_there (z ∷ xs) (y ∷ ys) zero x n e = (y, refl)
item_there (z ∷ xs) (y ∷ ys) (suc i) x n e = let m : suc (length xs) ≡ suc (length ys) = n in item_there xs ys i x (omega arith) e

-- with one more at the end of both: two old ones, or the new ones
pub pushed_pair : {A B : Type 0} (xs : List A) (ys : List B) (x : A) (y : B) (k : ℕ) (a : A) (b : B) → length xs ≡ length ys → slice_get (xs ++ x ∷ []) k ≡ Some a → slice_get (ys ++ y ∷ []) k ≡ Some b
    → ((slice_get xs k ≡ Some a) × (slice_get ys k ≡ Some b)) ⊎ ((a ≡ x) × (b ≡ y))
pushed_pair [] [] x y zero a b n e f = inr (sym (same_Some x a e), sym (same_Some y b f))
pushed_pair [] [] x y (suc k) a b n e f = absurd (none-some a e)
pushed_pair (z ∷ xs) (w ∷ ys) x y zero a b n e f = inl (e, f)
pushed_pair (z ∷ xs) (w ∷ ys) x y (suc k) a b n e f = let m : suc (length xs) ≡ suc (length ys) = n in pushed_pair xs ys x y k a b (omega arith) e f
pushed_pair xs ys x y k a b n e f = absurd (omega arith)
