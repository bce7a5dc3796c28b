-- The item of a loop over a list: the element at its place.
use Rattle.list_laws.proofs.Common.{◌≡◌, ℕ, ◌+◌, ◌<◌, List, ◌∷◌, length, get_or, drop, refl, drop-cons, arith, slice_get_read, In}
use Rattle.list_laws.proofs.Members.{In-get}

-- it is a member
pub member_at : {A : Type 0} (xs : List A) (i : ℕ) (x : A) → i < length xs → x ≡ get_or xs i x → In xs x
member_at xs i x h e = In-get xs i x (slice_get_read xs (length xs) i x refl h e)

-- and the rest of the list begins with it
pub drop_at : {A : Type 0} (xs : List A) (i : ℕ) (x : A) → i < length xs → x ≡ get_or xs i x → drop i xs ≡ x ∷ drop (i + 1) xs
drop_at xs i x h e = grind (arith, drop-cons)
