-- What the signatures of two lists say of the lists.
use Rattle.cut_sets.proofs.Common.{◌≡◌, ℕ, zero, suc, ◌+◌, ◌-◌, ◌*◌, ◌/◌, ◌%◌, ◌^◌, ◌<◌, ◌≤◌, max, min, List, [], ◌∷◌, length, refl, sym, ap, ◌∙◌, inl, inr, arith, bit_or, count_ones, false, bit_at, bit_and, bit_at-zero, bit_at_or, bit_at_and, bit_at_lowest, same_from_bits, cases_Bool, In, Within, union, subset, leaf_bit, signature_of, get_or, drop, or_zero_r, drop_all, drop_more}
use Rattle.std.proofs.Math.Nat.{pow-succ'}
use Rattle.std.proofs.lemmas.Nat.{or_shr, and-not}
use lib.Count.{ones_step, ones-le}
use Rattle.cut_sets.proofs.SetLemmas.{In-union, union_left, union_right, subset_true}

-- the bits of a member are among those of the list
member_bit : (b : List ℕ) (x i : ℕ) → In b x → bit_at (leaf_bit x) i ≤ bit_at (signature_of b) i
member_bit [] x i h = elim h [ ]
member_bit (y ∷ ys) x i (inl e) = omega (arith, bit_at_or (leaf_bit y) (signature_of ys) i, ap (λ m. bit_at (leaf_bit m) i) e)
member_bit (y ∷ ys) x i (inr h) = omega (arith, bit_at_or (leaf_bit y) (signature_of ys) i, member_bit ys x i h)

-- what bounds the bits of all members bounds those of the list
bits_below : (a : List ℕ) (i most : ℕ) → ((x : ℕ) → In a x → bit_at (leaf_bit x) i ≤ most) → bit_at (signature_of a) i ≤ most
bits_below [] i most h = let z : bit_at 0 i ≡ 0 = bit_at-zero i in omega arith
bits_below (x ∷ xs) i most h = omega (arith, bit_at_or (leaf_bit x) (signature_of xs) i, h x (inl refl), bits_below xs i most (λ n j. h n (inr j)))

-- a part's bits are among the whole's
bits_within : (a b : List ℕ) (i : ℕ) → Within a b → bit_at (signature_of a) i ≤ bit_at (signature_of b) i
bits_within a b i w = bits_below a i (bit_at (signature_of b) i) (λ x h. member_bit b x i (w x h))

-- a part adds no bit to the whole's signature
pub signature-within : (a b : List ℕ) → Within a b → bit_or (signature_of a) (signature_of b) ≡ signature_of b
signature-within a b w =
    same_from_bits (bit_or (signature_of a) (signature_of b)) (signature_of b)
    (λ i. let o : bit_at (bit_or (signature_of a) (signature_of b)) i ≡ max (bit_at (signature_of a) i) (bit_at (signature_of b) i) = bit_at_or (signature_of a) (signature_of b) i in
    let h : bit_at (signature_of a) i ≤ bit_at (signature_of b) i = bits_within a b i w in omega arith)

-- a list that would add a bit is no part
pub subset-signature : (a b : List ℕ) → (bit_or (signature_of a) (signature_of b) ≡ signature_of b → ⊥) → false ≡ subset a b
subset-signature a b n = elim (cases_Bool (subset a b)) [ inl t ↦ absurd (n (signature-within a b (subset_true a b t))) | inr f ↦ sym f ]

-- the signature of one leaf
pub signature-one : (leaf : ℕ) → leaf_bit leaf ≡ signature_of (leaf ∷ [])
signature-one leaf =
    same_from_bits (leaf_bit leaf) (bit_or (leaf_bit leaf) 0)
    (λ i. let o : bit_at (bit_or (leaf_bit leaf) 0) i ≡ max (bit_at (leaf_bit leaf) i) (bit_at 0 i) = bit_at_or (leaf_bit leaf) 0 i in let z : bit_at 0 i ≡ 0 = bit_at-zero i in omega arith)

union_bit : (a b : List ℕ) (i : ℕ) → bit_at (signature_of (union a b)) i ≡ max (bit_at (signature_of a) i) (bit_at (signature_of b) i)
union_bit a b i =
    let l : bit_at (signature_of a) i ≤ bit_at (signature_of (union a b)) i = bits_within a (union a b) i (union_left a b) in
    let r : bit_at (signature_of b) i ≤ bit_at (signature_of (union a b)) i = bits_within b (union a b) i (union_right a b) in
    let u : bit_at (signature_of (union a b)) i ≤ max (bit_at (signature_of a) i) (bit_at (signature_of b) i) =
    bits_below (union a b) i (max (bit_at (signature_of a) i) (bit_at (signature_of b) i))
    (λ x h. elim (In-union a b x h) [
      | inl j ↦ (let k : bit_at (leaf_bit x) i ≤ bit_at (signature_of a) i = member_bit a x i j in omega arith)
      | inr j ↦ (let k : bit_at (leaf_bit x) i ≤ bit_at (signature_of b) i = member_bit b x i j in omega arith)
    ]) in omega arith

-- the signature of a union has the bits of both
pub signature-union : (a b : List ℕ) → signature_of (union a b) ≡ bit_or (signature_of a) (signature_of b)
signature-union a b = same_from_bits (signature_of (union a b)) (bit_or (signature_of a) (signature_of b)) (λ i. union_bit a b i ∙ sym (bit_at_or (signature_of a) (signature_of b) i))

-- one more bit adds at most one
ones_more : (j s : ℕ) → count_ones (bit_or (2 ^ j) s) ≤ 1 + count_ones s
ones_more zero s =
    let a : count_ones (bit_or 1 s) ≡ bit_or 1 s % 2 + count_ones (bit_or 1 s / 2) = ones_step (bit_or 1 s) in
    let b : count_ones s ≡ s % 2 + count_ones (s / 2) = ones_step s in
    let z : bit_or 0 (s / 2) ≡ s / 2 = same_from_bits (bit_or 0 (s / 2)) (s / 2)
    (λ i. let o : bit_at (bit_or 0 (s / 2)) i ≡ max (bit_at 0 i) (bit_at (s / 2) i) = bit_at_or 0 (s / 2) i in let n : bit_at 0 i ≡ 0 = bit_at-zero i in omega arith) in
    let e : count_ones (bit_or 1 s / 2) ≡ count_ones (s / 2) = ap count_ones ((or_shr 1 s 1) ∙ z) in omega arith
ones_more (suc j) s =
    let t : bit_or (2 ^ suc j) s % 2 ≡ max (2 ^ suc j % 2) (s % 2) = sym (bit_at_lowest (bit_or (2 ^ suc j) s)) ∙ bit_at_or (2 ^ suc j) s 0 ∙ ap (λ m. max m (bit_at s 0)) (bit_at_lowest (2 ^ suc j)) ∙ ap (λ m. max (2 ^ suc j % 2) m) (bit_at_lowest s) in
    let a : count_ones (bit_or (2 ^ suc j) s) ≡ bit_or (2 ^ suc j) s % 2 + count_ones (bit_or (2 ^ suc j) s / 2) = ones_step (bit_or (2 ^ suc j) s) in
    let b : count_ones s ≡ s % 2 + count_ones (s / 2) = ones_step s in
    let h : bit_or (2 ^ suc j) s / 2 ≡ bit_or (2 ^ suc j / 2) (s / 2) = or_shr (2 ^ suc j) s 1 in
    let e : count_ones (bit_or (2 ^ suc j) s / 2) ≡ count_ones (bit_or (2 ^ j) (s / 2)) = ap count_ones (h ∙ ap (λ m. bit_or m (s / 2)) (omega arith)) in
    let r : count_ones (bit_or (2 ^ j) (s / 2)) ≤ 1 + count_ones (s / 2) = ones_more j (s / 2) in omega arith

-- a list has at least as many elements as its signature has bits
pub ones_le_length : (a : List ℕ) → count_ones (signature_of a) ≤ length a
ones_le_length [] = omega (arith, ones-le 0 0 (omega arith))
ones_le_length (x ∷ xs) = let m : count_ones (signature_of (x ∷ xs)) ≤ 1 + count_ones (signature_of xs) = ones_more (x % 64) (signature_of xs) in let r : count_ones (signature_of xs) ≤ length xs = ones_le_length xs in omega arith

-- where the bits of both are too many, so are the elements of the union
pub union_over_bits : (a b : List ℕ) (k : ℕ) → k < count_ones (bit_or (signature_of a) (signature_of b)) → k < length (union a b)
union_over_bits a b k h = omega (arith, ap count_ones (signature-union a b), ones_le_length (union a b))

-- what a word has of another's bits is not outside it
pub outside-none : (s w outside : ℕ) → outside + w ≡ 2 ^ 64 - 1 → s < 2 ^ 64 → bit_or s w ≡ w → bit_and outside s ≡ 0
outside-none s w outside o l h =
    let c : bit_and (2 ^ 64 - 1 - w) s + bit_and w s ≡ s = and-not 64 w s (omega arith) l in
    let i : bit_and w s ≡ s = same_from_bits (bit_and w s) s
    (λ j. let p : bit_at (bit_and w s) j ≡ min (bit_at w j) (bit_at s j) = bit_at_and w s j in
    let q : bit_at (bit_or s w) j ≡ max (bit_at s j) (bit_at w j) = bit_at_or s w j in
    let r : bit_at (bit_or s w) j ≡ bit_at w j = ap (λ m. bit_at m j) h in omega arith) in
    let z : bit_and (2 ^ 64 - 1 - w) s ≡ 0 = omega arith in ap (λ m. bit_and m s) (omega arith) ∙ z

-- a part has no bit outside the whole's signature
pub outside-subset : (a b : List ℕ) (outside : ℕ) → outside + signature_of b ≡ 2 ^ 64 - 1 → signature_of a < 2 ^ 64 → (bit_and outside (signature_of a) ≡ 0 → ⊥) → false ≡ subset a b
outside-subset a b outside o l n = subset-signature a b (λ h. n (outside-none (signature_of a) (signature_of b) outside o l h))

or_assoc : (a b c : ℕ) → bit_or (bit_or a b) c ≡ bit_or a (bit_or b c)
or_assoc a b c =
    same_from_bits (bit_or (bit_or a b) c) (bit_or a (bit_or b c))
    (λ i. let p : bit_at (bit_or (bit_or a b) c) i ≡ max (bit_at (bit_or a b) i) (bit_at c i) = bit_at_or (bit_or a b) c i in
    let s : bit_at (bit_or b c) i ≡ max (bit_at b i) (bit_at c i) = bit_at_or b c i in omega (arith, bit_at_or a (bit_or b c) i, bit_at_or a b i))

-- one more leaf's bit
pub signature_next : (leaves : List ℕ) (word i bit full : ℕ) → i < length leaves → bit ≡ leaf_bit (get_or leaves i 0) → bit_or word (signature_of (drop i leaves)) ≡ full
    → bit_or (bit_or word bit) (signature_of (drop (i + 1) leaves)) ≡ full
signature_next leaves word i bit full l b e = grind (arith, or_assoc, bit_or, drop_more)

pub signature_end : (leaves : List ℕ) (word i full : ℕ) → length leaves ≤ i → bit_or word (signature_of (drop i leaves)) ≡ full → word ≡ full
signature_end leaves word i full l e = sym (or_zero_r word) ∙ ap (λ s. bit_or word (signature_of s)) (sym (drop_all i leaves l)) ∙ e
