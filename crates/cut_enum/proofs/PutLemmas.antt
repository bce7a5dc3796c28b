-- Where a leaf goes in an ascending list.
use Rattle.cut_enum.proofs.Common.{◌≡◌, ℕ, zero, suc, ◌<◌, ◌≤◌, List, [], ◌∷◌, length, get_or, refl, sym, ap, ◌∙◌, arith, drop, drop_more, drop_all, insert, put, union, put_at}

-- the place of x in a list: those before it are less, and what stands there is not
pub record IsPlace (x : ℕ) (ys : List ℕ) (i : ℕ) : Type 0 where
  pub within : i ≤ length ys
  pub below : (k : ℕ) → k < i → get_or ys k 0 < x
  pub above : i < length ys → x ≤ get_or ys i 0

IsPlace-tail : (x y : ℕ) (ys : List ℕ) (i : ℕ) → IsPlace x (y ∷ ys) (suc i) → IsPlace x ys i
IsPlace-tail x y ys i p = record {
  within = (let w : suc i ≤ length (y ∷ ys) = p.within in omega arith);
  below = λ k l. p.below (suc k) (omega arith);
  above = λ l. p.above (omega arith);
}

-- where x stands already, nothing changes
pub put_there : (x : ℕ) (ys : List ℕ) (i : ℕ) → IsPlace x ys i → i < length ys → get_or ys i 0 ≡ x → put x ys ≡ ys
put_there x [] i p w e = absurd (omega arith)
put_there x (y ∷ ys) zero p w e = put_at (λ s. s ≡ y ∷ ys) x y ys (λ a. absurd (omega arith)) (λ a. refl) (λ a. absurd (omega arith))
put_there x (y ∷ ys) (suc i) p w e =
    let b : y < x = p.below 0 (omega arith) in
    put_at (λ s. s ≡ y ∷ ys) x y ys (λ a. absurd (omega arith)) (λ a. refl) (λ a. ap (λ s. y ∷ s) (put_there x ys i (IsPlace-tail x y ys i p) (omega arith) e))

-- else x is inserted at its place
pub put_insert : (x : ℕ) (ys : List ℕ) (i : ℕ) → IsPlace x ys i → (i < length ys → get_or ys i 0 ≡ x → ⊥) → put x ys ≡ insert ys i x
put_insert x [] zero p n = refl
put_insert x [] (suc i) p n = absurd (let w : suc i ≤ 0 = p.within in omega arith)
put_insert x (y ∷ ys) zero p n = grind arith
put_insert x (y ∷ ys) (suc i) p n =
    let b : y < x = p.below 0 (omega arith) in
    put_at (λ s. s ≡ y ∷ insert ys i x) x y ys (λ a. absurd (omega arith)) (λ a. absurd (omega arith)) (λ a. ap (λ s. y ∷ s) (put_insert x ys i (IsPlace-tail x y ys i p) (λ w. n (omega arith))))

length-put : (x : ℕ) (ys : List ℕ) → length ys ≤ length (put x ys)
length-put x [] = omega arith
length-put x (y ∷ ys) = grind (arith, put_at, length-put x ys)

-- a union is no shorter than its right part
pub length-union : (a b : List ℕ) → length b ≤ length (union a b)
length-union [] b = omega arith
length-union (x ∷ xs) b = let p : length b ≤ length (put x b) = length-put x b in let r : length (put x b) ≤ length (union xs (put x b)) = length-union xs (put x b) in omega arith

-- where one more element has no room, the union hasn't either
pub union_over : (k : ℕ) (xs b l : List ℕ) (i : ℕ) → i < length xs → union (drop i xs) l ≡ union xs b → k < length (put (get_or xs i 0) l) → k < length (union xs b)
union_over k xs b l i w e h = grind (arith, drop_more, length-union)

pub union_end : (xs b l : List ℕ) (i : ℕ) → length xs ≤ i → union (drop i xs) l ≡ union xs b → l ≡ union xs b
union_end xs b l i h e = ap (λ s. union s l) (sym (drop_all i xs h)) ∙ e
