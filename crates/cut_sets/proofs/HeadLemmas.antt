-- The heads of two ascending lists, and the head of their union.
use Rattle.cut_sets.proofs.Common.{◌≡◌, ℕ, ◌+◌, ◌-◌, ◌<◌, ◌≤◌, List, [], ◌∷◌, ◌++◌, length, get_or, take, drop, refl, sym, ap, ◌∙◌, inl, inr, arith, append_assoc, length-append, slice_set, take_all, take_more_set, append-nil, length-take-le, In, IsAscending, put, union, suc, subst, bit_or, signature_of, IsFlatCut, MOST_LEAVES}
use Rattle.cut_sets.proofs.SetLemmas.{put_at, IsAscending-union}
use Rattle.cut_sets.proofs.SignatureLemmas.{signature-union}

put_past : (z x : ℕ) (b : List ℕ) → x < z → put z (x ∷ b) ≡ x ∷ put z b
put_past z x b l = put_at (λ s. s ≡ x ∷ put z b) z x b (λ a. absurd (omega arith)) (λ a. absurd (omega arith)) (λ _. refl)

put_before : (x y : ℕ) (ys : List ℕ) → x < y → put x (y ∷ ys) ≡ x ∷ y ∷ ys
put_before x y ys l = put_at (λ s. s ≡ x ∷ y ∷ ys) x y ys (λ _. refl) (λ a. absurd (omega arith)) (λ a. absurd (omega arith))

put_same : (x y : ℕ) (ys : List ℕ) → x ≡ y → put x (y ∷ ys) ≡ y ∷ ys
put_same x y ys e = put_at (λ s. s ≡ y ∷ ys) x y ys (λ a. absurd (omega arith)) (λ _. refl) (λ a. absurd (omega arith))

-- a number below all of one list stays at the head of the other
union_keep : (x : ℕ) (xs b : List ℕ) → ((n : ℕ) → In xs n → x < n) → union xs (x ∷ b) ≡ x ∷ union xs b
union_keep x [] b h = refl
union_keep x (z ∷ zs) b h = ap (λ s. union zs s) (put_past z x b (h z (inl refl))) ∙ union_keep x zs (put z b) (λ n i. h n (inr i))

pub rest_is : (x : ℕ) (xs : List ℕ) → take (length (x ∷ xs) - 1) (drop 1 (x ∷ xs)) ≡ xs
rest_is x xs = take_all (length (x ∷ xs) - 1) xs (omega arith)

-- The least head is the union's, and the union goes on with what is left.
pub head_left : (xs ys : List ℕ) → IsAscending xs → 1 ≤ length xs → 1 ≤ length ys → get_or xs 0 0 < get_or ys 0 0 → union xs ys ≡ get_or xs 0 0 ∷ union (take (length xs - 1) (drop 1 xs)) ys
head_left (x ∷ xs) (y ∷ ys) up a b l =
    ap (λ s. union xs s) (put_before x y ys l) ∙ union_keep x xs (y ∷ ys) up.0 ∙ ap (λ s. x ∷ union s (y ∷ ys)) (sym (rest_is x xs))
head_left xs ys up a b l = absurd (omega arith)

pub head_right : (xs ys : List ℕ) → IsAscending xs → 1 ≤ length xs → 1 ≤ length ys → get_or ys 0 0 < get_or xs 0 0 → union xs ys ≡ get_or ys 0 0 ∷ union xs (take (length ys - 1) (drop 1 ys))
head_right (x ∷ xs) (y ∷ ys) up a b l =
    union_keep y (x ∷ xs) ys (λ n i. elim i [ inl e ↦ omega arith | inr j ↦ (let k : x < n = up.0 n j in omega arith) ])
    ∙ ap (λ s. y ∷ union (x ∷ xs) s) (sym (rest_is y ys))
head_right xs ys up a b l = absurd (omega arith)

pub head_both : (xs ys : List ℕ) → IsAscending xs → 1 ≤ length xs → 1 ≤ length ys → get_or ys 0 0 ≤ get_or xs 0 0 → get_or xs 0 0 ≤ get_or ys 0 0
    → union xs ys ≡ get_or xs 0 0 ∷ union (take (length xs - 1) (drop 1 xs)) (take (length ys - 1) (drop 1 ys))
head_both (x ∷ xs) (y ∷ ys) up a b l m =
    let e : x ≡ y = omega arith in
    ap (λ s. union xs s) (put_same x y ys e) ∙ ap (λ z. union xs (z ∷ ys)) (sym e) ∙ union_keep x xs ys up.0
    ∙ ap (λ s. x ∷ union s ys) (sym (rest_is x xs)) ∙ ap (λ s. x ∷ union (take (length (x ∷ xs) - 1) (drop 1 (x ∷ xs))) s) (sym (rest_is y ys))
head_both xs ys up a b l m = absurd (omega arith)

pub head_last : (xs ys : List ℕ) → IsAscending xs → 1 ≤ length xs → length ys < 1 → union xs ys ≡ get_or xs 0 0 ∷ union (take (length xs - 1) (drop 1 xs)) ys
head_last (x ∷ xs) [] up a b = union_keep x xs [] up.0 ∙ ap (λ s. x ∷ union s []) (sym (rest_is x xs))
head_last xs ys up a b = absurd (omega arith)

-- one more element at the end of what is made
pub joined_step : (leaves full rest more : List ℕ) (n x : ℕ) → n < length leaves → take n leaves ++ rest ≡ full → rest ≡ x ∷ more → take (n + 1) (slice_set leaves n x) ++ more ≡ full
joined_step leaves full rest more n x l e r = grind (arith, take_more_set, append_assoc)

-- where nothing is left, that is all
pub joined_all : (leaves full rest : List ℕ) (n size : ℕ) → n ≡ size → take n leaves ++ rest ≡ full → rest ≡ [] → take size leaves ≡ full
joined_all leaves full rest n size q e r = grind (arith, append-nil)

-- where nothing is left, what was taken is the union, with the bits of both
pub flat_union : (leaves a b rest : List ℕ) (n k s t : ℕ) → take n leaves ++ rest ≡ union a b → rest ≡ [] → n ≡ k → k ≤ MOST_LEAVES → IsAscending b → s ≡ signature_of a → t ≡ signature_of b → IsFlatCut leaves k (bit_or s t)
flat_union leaves a b rest n k s t e r q few up f g =
    let all : take k leaves ≡ union a b = joined_all leaves (union a b) rest n k q e r in
    record {
      few = few;
      ascending = subst IsAscending (sym all) (IsAscending-union a b up);
      signed = ap (λ m. bit_or m t) f ∙ ap (λ m. bit_or (signature_of a) m) g ∙ sym (signature-union a b) ∙ ap signature_of (sym all);
    }

-- where one is left, the union is longer than what was taken
pub joined_over : (leaves full rest more : List ℕ) (n k x : ℕ) → n ≡ k → n ≤ length leaves → take n leaves ++ rest ≡ full → rest ≡ x ∷ more → k < length full
joined_over leaves full rest more n k x q l e r = omega (arith, length-append (take n leaves) rest, length-take-le n leaves l, ap length r, ap length e)
