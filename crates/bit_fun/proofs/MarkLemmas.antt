-- The marks of the nodes whose literals are kept.
use Rattle.bit_fun.proofs.Common.{◌≡◌, ℕ, zero, suc, ◌<◌, Bool, true, false, List, [], ◌∷◌, length, replicate, slice_set, get_or-set_same, get_or-set_other, length-set, refl, sym, ap, ◌∙◌, subst, inl, inr, ◌⊎◌, arith, true≢false, In, same_or, Aig, node_count, mark_of, with_marks, AreMarked, IsConeOrder, reverse, rules, in_reversed, reversed_in}

-- setting the mark of a node
pub mark_here : (marks : List Bool) (n : ℕ) (b : Bool) → n < length marks → mark_of (slice_set marks n b) n ≡ b
mark_here marks n b w = get_or-set_same marks n b false w

pub mark_other : (marks : List Bool) (n m : ℕ) (b : Bool) → (m ≡ n → ⊥) → mark_of (slice_set marks n b) m ≡ mark_of marks m
mark_other marks n m b off = get_or-set_other marks n m b false off

inside_set : (marks : List Bool) (m : ℕ) (b : Bool) (ms : List ℕ) → ((k : ℕ) → In (m ∷ ms) k → k < length marks) → (k : ℕ) → In ms k → k < length (slice_set marks m b)
inside_set marks m b ms inside k i = omega (arith, inside k (inr i), length-set marks m b)

-- the nodes of an order have marks
pub order_inside : (g : Aig) (leaves : List ℕ) (kept : List Bool) (top : ℕ) (order : List ℕ) → IsConeOrder g leaves kept top (reverse order) → length kept ≡ node_count g → (m : ℕ) → In order m → m < length kept
order_inside g leaves kept top order cone long m i = omega (arith, long, ((cone.inner m (in_reversed order m i)).and).1)

-- the nodes whose marks are set
pub length-with_marks : (free marks : List Bool) (ms : List ℕ) → length (with_marks free marks ms) ≡ length marks
length-with_marks free marks [] = refl
length-with_marks free marks (m ∷ ms) = length-with_marks free (slice_set marks m (mark_of free m)) ms ∙ length-set marks m (mark_of free m)

with_marks_each : (free marks : List Bool) (ms : List ℕ) (n : ℕ) → ((k : ℕ) → In ms k → k < length marks) → mark_of (with_marks free marks ms) n ≡ true → (mark_of marks n ≡ true) ⊎ (In ms n × (mark_of free n ≡ true))
with_marks_each free marks [] n inside e = inl e
with_marks_each free marks (m ∷ ms) n inside e = search (rules, slice_set, inside_set, same_or, mark_here, mark_other, with_marks_each free (slice_set marks m (mark_of free m)) ms n (inside_set marks m (mark_of free m) ms inside) e)

marks_stay : (free marks : List Bool) (ms : List ℕ) (n : ℕ) → (In ms n → ⊥) → mark_of (with_marks free marks ms) n ≡ mark_of marks n
marks_stay free marks [] n out = refl
marks_stay free marks (m ∷ ms) n out = marks_stay free (slice_set marks m (mark_of free m)) ms n (λ i. out (inr i)) ∙ mark_other marks m n (mark_of free m) (λ e. out (inl e))

free_stay : (free marks : List Bool) (ms : List ℕ) (n : ℕ) → ((k : ℕ) → In ms k → k < length marks) → mark_of free n ≡ true → mark_of marks n ≡ true → mark_of (with_marks free marks ms) n ≡ true
free_stay free marks [] n inside f e = e
free_stay free marks (m ∷ ms) n inside f e = grind (arith, slice_set, inside_set, same_or, mark_here, mark_other, free_stay free (slice_set marks m (mark_of free m)) ms n (inside_set marks m (mark_of free m) ms inside) f (elim (same_or n m) [ inl q ↦ ap (mark_of (slice_set marks m (mark_of free m))) q ∙ mark_here marks m (mark_of free m) (inside m (inl refl)) ∙ ap (mark_of free) (sym q) ∙ f | inr off ↦ mark_other marks m n (mark_of free m) off ∙ e ]))

-- the free ones of an order have theirs
free_marked : (free marks : List Bool) (ms : List ℕ) (n : ℕ) → ((k : ℕ) → In ms k → k < length marks) → In ms n → mark_of free n ≡ true → mark_of (with_marks free marks ms) n ≡ true
free_marked free marks [] n inside i f = absurd i
free_marked free marks (m ∷ ms) n inside (inl q) f =
    free_stay free (slice_set marks m (mark_of free m)) ms n (inside_set marks m (mark_of free m) ms inside) f
    (ap (mark_of (slice_set marks m (mark_of free m))) q ∙ mark_here marks m (mark_of free m) (inside m (inl refl)) ∙ ap (mark_of free) (sym q) ∙ f)
free_marked free marks (m ∷ ms) n inside (inr i) f = free_marked free (slice_set marks m (mark_of free m)) ms n (inside_set marks m (mark_of free m) ms inside) i f

-- and where none of the order had one, those that had one have it still
marks_grow : (free marks : List Bool) (ms : List ℕ) (n : ℕ) → ((k : ℕ) → In ms k → mark_of marks k ≡ false) → mark_of marks n ≡ true → mark_of (with_marks free marks ms) n ≡ true
marks_grow free marks ms n fresh e = marks_stay free marks ms n (λ i. true≢false (sym e ∙ fresh n i)) ∙ e

-- so are the free nodes of an order that was just walked
pub order_marked : (g : Aig) (leaves : List ℕ) (free kept marked : List Bool) (top : ℕ) (order : List ℕ) → IsConeOrder g leaves kept top (reverse order) → length kept ≡ node_count g → marked ≡ with_marks free kept order → AreMarked free kept marked (reverse order)
order_marked g leaves free kept marked top order cone long same = grind (arith, marks_grow, in_reversed, free_marked, order_inside, reversed_in, with_marks_each)

-- at the start no node has one
pub clear_marks : (k n : ℕ) → mark_of (replicate k false) n ≡ false
clear_marks (suc k) (suc n) = clear_marks k n
clear_marks k n = refl
