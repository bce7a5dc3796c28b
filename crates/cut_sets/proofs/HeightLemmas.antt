-- The height of a cut: it grows with the cut and with the labels of its leaves.
use Rattle.cut_sets.proofs.Common.{◌≡◌, ℕ, suc, ◌+◌, ◌<◌, ◌≤◌, List, [], ◌∷◌, refl, ap, inl, inr, arith, In, Within, greatest, height}

-- where every element's label is at most d, so is the greatest
pub greatest_le : (label : ℕ → ℕ) (c : List ℕ) (d : ℕ) → ((m : ℕ) → In c m → label m ≤ d) → greatest label c ≤ d
greatest_le label [] d h = omega arith
greatest_le label (m ∷ ms) d h = let a : label m ≤ d = h m (inl refl) in let b : greatest label ms ≤ d = greatest_le label ms d (λ n i. h n (inr i)) in omega arith

pub height_le : (label : ℕ → ℕ) (c : List ℕ) (d : ℕ) → ((m : ℕ) → In c m → label m ≤ d) → height label c ≤ suc d
height_le label [] d h = omega arith
height_le label (m ∷ ms) d h = let a : greatest label (m ∷ ms) ≤ d = greatest_le label (m ∷ ms) d h in omega arith

-- the greatest is at least each
pub greatest_in : (label : ℕ → ℕ) (c : List ℕ) (m : ℕ) → In c m → label m ≤ greatest label c
greatest_in label [] m i = absurd i
greatest_in label (x ∷ xs) m (inl e) = let a : label m ≡ label x = ap label e in omega arith
greatest_in label (x ∷ xs) m (inr i) = let a : label m ≤ greatest label xs = greatest_in label xs m i in omega arith

-- and the height is above each
pub height_member : (label : ℕ → ℕ) (c : List ℕ) (m : ℕ) → In c m → label m + 1 ≤ height label c
height_member label [] m i = absurd i
height_member label (x ∷ xs) m i = let a : label m ≤ greatest label (x ∷ xs) = greatest_in label (x ∷ xs) m i in omega arith

-- a part of a cut is no higher
pub height_within : (label : ℕ → ℕ) (a b : List ℕ) → Within a b → height label a ≤ height label b
height_within label [] b w = omega arith
height_within label (x ∷ xs) [] w = absurd (w x (inl refl))
height_within label (x ∷ xs) (y ∷ ys) w =
    let a : greatest label (x ∷ xs) ≤ greatest label (y ∷ ys) = greatest_le label (x ∷ xs) (greatest label (y ∷ ys)) (λ m i. greatest_in label (y ∷ ys) m (w m i)) in omega arith

-- only the empty cut has height 0
pub height_none : (label : ℕ → ℕ) (c : List ℕ) → height label c ≡ 0 → c ≡ []
height_none label [] e = refl
height_none label (x ∷ xs) e = absurd (omega arith)

-- labels that agree on the leaves give the same height
pub greatest_same : (f h : ℕ → ℕ) (c : List ℕ) → ((m : ℕ) → In c m → f m ≡ h m) → greatest f c ≡ greatest h c
greatest_same f h [] s = refl
greatest_same f h (x ∷ xs) s = let a : f x ≡ h x = s x (inl refl) in let b : greatest f xs ≡ greatest h xs = greatest_same f h xs (λ m i. s m (inr i)) in omega arith

pub height_same : (f h : ℕ → ℕ) (c : List ℕ) → ((m : ℕ) → In c m → f m ≡ h m) → height f c ≡ height h c
height_same f h [] s = refl
height_same f h (x ∷ xs) s = let a : greatest f (x ∷ xs) ≡ greatest h (x ∷ xs) = greatest_same f h (x ∷ xs) s in omega arith

-- leaves below a node have a height of at most the node
pub height_bound : (label : ℕ → ℕ) (c : List ℕ) (n : ℕ) → ((m : ℕ) → In c m → m < n) → ((m : ℕ) → label m ≤ m) → height label c ≤ n
height_bound label [] n s low = omega arith
height_bound label (x ∷ []) n s low = let a : x < n = s x (inl refl) in let b : label x ≤ x = low x in omega arith
height_bound label (x ∷ y ∷ xs) n s low = let a : x < n = s x (inl refl) in let b : label x ≤ x = low x in let d : height label (y ∷ xs) ≤ n = height_bound label (y ∷ xs) n (λ m i. s m (inr i)) low in omega arith
