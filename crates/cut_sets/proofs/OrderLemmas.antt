-- The order of lists: it is transitive, no list is before itself, and of two lists one is before the other or they are equal.
use Rattle.cut_sets.proofs.Common.{◌≡◌, ℕ, ◌<◌, ◌≤◌, Bool, true, false, cond, ltb, eqb, List, [], ◌∷◌, length, refl, sym, ap, ◌∙◌, subst, inl, inr, ◌⊎◌, arith, rules, ltb-true, ltb-false, eqb-true, eqb-false, false≢true, In, choose, lex, before, IsOrdered}

lex_at : (P : Bool → Type 0) (x y : ℕ) (xs ys : List ℕ) → (x < y → P true) → (x ≡ y → P (lex xs ys)) → (y < x → P false) → P (lex (x ∷ xs) (y ∷ ys))
lex_at P x y xs ys less same more = grind arith

lex_head : (x y : ℕ) (xs ys : List ℕ) → x < y → lex (x ∷ xs) (y ∷ ys) ≡ true
lex_head x y xs ys h = lex_at (λ b. b ≡ true) x y xs ys (λ a. refl) (λ e. absurd (omega arith)) (λ a. absurd (omega arith))

lex_tail : (x y : ℕ) (xs ys : List ℕ) → x ≡ y → lex xs ys ≡ true → lex (x ∷ xs) (y ∷ ys) ≡ true
lex_tail x y xs ys h t = lex_at (λ b. b ≡ true) x y xs ys (λ a. refl) (λ e. t) (λ a. absurd (omega arith))

pub lex_trans : (a b c : List ℕ) → lex a b ≡ true → lex b c ≡ true → lex a c ≡ true
lex_trans (x ∷ xs) (y ∷ ys) [] h k = absurd (false≢true k)
lex_trans (x ∷ xs) (y ∷ ys) (z ∷ zs) h0 k0 =
    lex_at (λ b. b ≡ true → lex (y ∷ ys) (z ∷ zs) ≡ true → lex (x ∷ xs) (z ∷ zs) ≡ true) x y xs ys
    (λ a h. lex_at (λ b. b ≡ true → lex (x ∷ xs) (z ∷ zs) ≡ true) y z ys zs
    (λ b k. lex_head x z xs zs (omega arith)) (λ b k. lex_head x z xs zs (omega arith)) (λ b k. absurd (false≢true k)))
    (λ a h. lex_at (λ b. b ≡ true → lex (x ∷ xs) (z ∷ zs) ≡ true) y z ys zs
    (λ b k. lex_head x z xs zs (omega arith)) (λ b k. lex_tail x z xs zs (omega arith) (lex_trans xs ys zs h k)) (λ b k. absurd (false≢true k)))
    (λ a h k. absurd (false≢true h)) h0 k0
lex_trans a b c h k = absurd (false≢true h)

before_at : (P : Bool → Type 0) (a b : List ℕ) → (length a < length b → P true) → (length a ≡ length b → P (lex a b)) → (length b < length a → P false) → P (before a b)
before_at P a b less same more = grind arith

pub before_shorter : (a b : List ℕ) → length a < length b → before a b ≡ true
before_shorter a b h = before_at (λ t. t ≡ true) a b (λ _. refl) (λ e. absurd (omega arith)) (λ l. absurd (omega arith))

before_lex : (a b : List ℕ) → length a ≡ length b → lex a b ≡ true → before a b ≡ true
before_lex a b h t = before_at (λ t. t ≡ true) a b (λ _. refl) (λ e. t) (λ l. absurd (omega arith))

-- two lists of one length, neither of which is before the other, are equal
lex_none : (a b : List ℕ) → length a ≡ length b → lex a b ≡ false → lex b a ≡ false → a ≡ b
lex_none [] [] l h k = refl
lex_none (x ∷ xs) (y ∷ ys) l h0 k0 =
    lex_at (λ b. b ≡ false → lex (y ∷ ys) (x ∷ xs) ≡ false → x ∷ xs ≡ y ∷ ys) x y xs ys (λ a h k. absurd (false≢true (sym h)))
    (λ e h k. (
    ap (λ m. m ∷ xs) e ∙ ap (λ m. y ∷ m) (lex_none xs ys (omega arith) h (lex_at (λ b. b ≡ false → lex ys xs ≡ false) y x ys xs (λ a. absurd (omega arith)) (λ q m. m) (λ a. absurd (omega arith)) k))))
    (λ a h k. absurd (false≢true (sym k ∙ lex_head y x ys xs a))) h0 k0
lex_none a b l h k = absurd (omega arith)

-- and so are two lists
pub before_none : (a b : List ℕ) → before a b ≡ false → before b a ≡ false → a ≡ b
before_none a b h0 k0 = grind (arith, before_at, false≢true, lex_none, before_shorter)

-- what is before another is no longer
pub before_length : (a b : List ℕ) → before a b ≡ true → length a ≤ length b
before_length a b h0 = before_at (λ t. t ≡ true → length a ≤ length b) a b (λ l h. omega arith) (λ e h. omega arith) (λ l h. absurd (false≢true h)) h0

pub before_trans : (a b c : List ℕ) → before a b ≡ true → before b c ≡ true → before a c ≡ true
before_trans a b c h0 k0 = grind (arith, before_at, before_shorter, false≢true, before_lex, lex_trans)

-- no list is before itself
pub lex-same : (a : List ℕ) → lex a a ≡ false
lex-same [] = refl
lex-same (x ∷ xs) = lex_at (λ b. b ≡ false) x x xs xs (λ a. absurd (omega arith)) (λ e. lex-same xs) (λ a. refl)

pub before-same : (a : List ℕ) → before a a ≡ false
before-same a = before_at (λ b. b ≡ false) a a (λ l. absurd (omega arith)) (λ e. lex-same a) (λ l. refl)

-- of an ordered list with all elements of another, what is not its head is behind it
behind_head : (c d : List ℕ) (ds : List (List ℕ)) → IsOrdered (d ∷ ds) → In (d ∷ ds) c → (c ≡ d) ⊎ (before d c ≡ true)
behind_head c d ds o (inl e) = inl e
behind_head c d ds o (inr i) = inr (o.0 c i)

same_head : (c : List ℕ) (cs : List (List ℕ)) (d : List ℕ) (ds : List (List ℕ)) → (c ≡ d) ⊎ (before d c ≡ true) → (d ≡ c) ⊎ (before c d ≡ true) → c ≡ d
same_head c cs d ds (inl e) k = e
same_head c cs d ds (inr h) (inl e) = sym e
same_head c cs d ds (inr h) (inr k) = absurd (false≢true (sym (before-same c) ∙ before_trans c d c k h))

tail_in : (c : List ℕ) (cs : List (List ℕ)) (d : List ℕ) (ds : List (List ℕ)) → c ≡ d → IsOrdered (c ∷ cs) → ((e : List ℕ) → In (c ∷ cs) e → In (d ∷ ds) e) → (e : List ℕ) → In cs e → In ds e
tail_in c cs d ds q o w e i = search (rules, false≢true, before-same)

-- ordered lists with the same elements are equal
pub same_ordered : (cs ds : List (List ℕ)) → IsOrdered cs → IsOrdered ds → ((e : List ℕ) → In cs e → In ds e) → ((e : List ℕ) → In ds e → In cs e) → cs ≡ ds
same_ordered [] [] o p w v = refl
same_ordered [] (d ∷ ds) o p w v = absurd (v d (inl refl))
same_ordered (c ∷ cs) [] o p w v = absurd (w c (inl refl))
same_ordered (c ∷ cs) (d ∷ ds) o p w v =
    let q : c ≡ d = same_head c cs d ds (behind_head c d ds p (w c (inl refl))) (behind_head d c cs o (v d (inl refl))) in
    ap (λ m. m ∷ cs) q ∙ ap (λ s. d ∷ s) (same_ordered cs ds o.1 p.1 (tail_in c cs d ds q o w) (tail_in d ds c cs (sym q) p v))
