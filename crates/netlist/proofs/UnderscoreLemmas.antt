-- How many underscores names begin with.
use Rattle.netlist.proofs.Common.{◌≡◌, ℕ, zero, suc, ◌≤◌, List, [], ◌∷◌, ◌++◌, max, replicate, ap, ◌∙◌, inl, inr, arith, In, underscores, most_underscores}

pub few_underscores : (names : List (List ℕ)) (name : List ℕ) → In names name → underscores name ≤ most_underscores names
few_underscores [] name i = absurd i
few_underscores (other ∷ names) name (inl e) = let s : underscores name ≡ underscores other = ap underscores e in omega arith
few_underscores (other ∷ names) name (inr i) = let l : underscores name ≤ most_underscores names = few_underscores names name i in omega arith

pub many_underscores : (count : ℕ) (rest : List ℕ) → count ≤ underscores (replicate count 95 ++ rest)
many_underscores zero rest = omega arith
many_underscores (suc count) rest = let l : count ≤ underscores (replicate count 95 ++ rest) = many_underscores count rest in omega arith

pub most-append : (xs ys : List (List ℕ)) → most_underscores (xs ++ ys) ≡ max (most_underscores xs) (most_underscores ys)
most-append [] ys = let z : most_underscores ys ≡ max 0 (most_underscores ys) = omega arith in z
most-append (x ∷ xs) ys = grind (arith, most_underscores, most-append xs ys)
