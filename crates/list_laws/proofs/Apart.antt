-- Lists in which nothing stands twice.
use Rattle.list_laws.proofs.Common.{◌≡◌, ℕ, zero, suc, ◌≤◌, Bool, List, [], ◌∷◌, ◌++◌, length, Some, refl, sym, ap, ◌∙◌, subst, inl, inr, arith, filter, slice_get, none-some, In}
pub use Rattle.list_laws.specs.Apart.{AreApart}
use Rattle.list_laws.proofs.Choice.{choose}
use Rattle.list_laws.proofs.Members.{In-get, In-left, In-right, In-append, In-filter}

pub joined_apart : {A : Type 0} (xs ys : List A) → AreApart xs → AreApart ys → ((p : A) → In xs p → In ys p → ⊥) → AreApart (xs ++ ys)
joined_apart [] ys a b apart = b
joined_apart (x ∷ xs) ys a b apart = (
  λ (i : In (xs ++ ys) x). elim (In-append xs ys x i) [ inl j ↦ a.0 j | inr j ↦ apart x (inl refl) j ],
  joined_apart xs ys a.1 b (λ p i j. apart p (inr i) j),
)

-- one more, which isn't there
pub pushed_apart : {A : Type 0} (xs : List A) (x : A) → AreApart xs → (In xs x → ⊥) → AreApart (xs ++ x ∷ [])
pushed_apart xs x a never = joined_apart xs (x ∷ []) a ((λ i. i), tt) (λ p i j. elim j [ inl e ↦ never (subst (In xs) e i) | inr k ↦ k ])

-- the parts of a list, which have nothing in common
pub left_apart : {A : Type 0} (xs ys : List A) → AreApart (xs ++ ys) → AreApart xs
left_apart [] ys a = tt
left_apart (x ∷ xs) ys a = ((λ i. a.0 (In-left xs ys x i)), left_apart xs ys a.1)

pub right_apart : {A : Type 0} (xs ys : List A) → AreApart (xs ++ ys) → AreApart ys
right_apart [] ys a = a
right_apart (x ∷ xs) ys a = right_apart xs ys a.1

pub not_in_both : {A : Type 0} (xs ys : List A) (x : A) → AreApart (xs ++ ys) → In xs x → In ys x → ⊥
not_in_both [] ys x a i j = absurd i
not_in_both (y ∷ xs) ys x a (inl e) j = a.0 (In-right xs ys y (subst (In ys) e j))
not_in_both (y ∷ xs) ys x a (inr i) j = not_in_both xs ys x a.1 i j

pub filtered_apart : {A : Type 0} (test : A → Bool) (xs : List A) → AreApart xs → AreApart (filter test xs)
filtered_apart test [] apart = tt
filtered_apart test (x ∷ xs) apart =
    let rest : AreApart (filter test xs) = filtered_apart test xs apart.1 in
    choose (λ l. AreApart l) (test x) (x ∷ filter test xs) (filter test xs) (λ t. (λ (i : In (filter test xs) x). apart.0 (In-filter test xs x i).0, rest)) (λ u. rest)

pub apart_once : {A : Type 0} (xs : List A) (i j : ℕ) (x : A) → AreApart xs → slice_get xs i ≡ Some x → slice_get xs j ≡ Some x → i ≡ j
apart_once [] i j x a e f = absurd (none-some x e)
apart_once (y ∷ xs) zero zero x a e f = refl
apart_once (y ∷ xs) zero (suc j) x a e f = absurd (a.0 (In-get xs j y (f ∙ sym e)))
apart_once (y ∷ xs) (suc i) zero x a e f = absurd (a.0 (In-get xs i y (e ∙ sym f)))
apart_once (y ∷ xs) (suc i) (suc j) x a e f = ap suc (apart_once xs i j x a.1 e f)

-- a list without one of its elements
removed : {A : Type 0} (xs : List A) (x : A) → In xs x → List A
removed [] x i = absurd i
removed (y ∷ ys) x (inl e) = ys
removed (y ∷ ys) x (inr i) = y ∷ removed ys x i

length-removed : {A : Type 0} (xs : List A) (x : A) (i : In xs x) → length xs ≡ suc (length (removed xs x i))
unfolding removed
length-removed [] x i = absurd i
length-removed (y ∷ ys) x (inl e) = refl
length-removed (y ∷ ys) x (inr i) = ap suc (length-removed ys x i)

In-removed : {A : Type 0} (xs : List A) (x : A) (i : In xs x) (z : A) → (z ≡ x → ⊥) → In xs z → In (removed xs x i) z
unfolding removed
In-removed [] x i z off j = absurd i
In-removed (y ∷ ys) x (inl e) z off (inl f) = absurd (off (f ∙ sym e))
In-removed (y ∷ ys) x (inl e) z off (inr j) = j
In-removed (y ∷ ys) x (inr i) z off (inl f) = inl f
In-removed (y ∷ ys) x (inr i) z off (inr j) = inr (In-removed ys x i z off j)

-- it is no longer than a list that has all its elements
pub apart_short : {A : Type 0} (xs ys : List A) → AreApart xs → ((x : A) → In xs x → In ys x) → length xs ≤ length ys
apart_short [] ys a h = omega arith
apart_short (x ∷ xs) ys a h =
    let i : In ys x = h x (inl refl) in
    omega (arith, apart_short xs (removed ys x i) a.1 (λ z j. In-removed ys x i z (λ e. a.0 (subst (In xs) e j)) (h z (inr j))), length-removed ys x i)
