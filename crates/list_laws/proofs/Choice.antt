-- What holds of a value that a test chooses.
use Rattle.list_laws.proofs.Common.{◌≡◌, Bool, true, false, cond, Option, Some, None, refl, sym, none-some}

-- with the test's outcome
pub choose : {X : Type 0} (P : X → Type 0) (b : Bool) (x y : X) → (b ≡ true → P x) → (b ≡ false → P y) → P (cond b x y)
choose P true x y t f = t refl
choose P false x y t f = f refl

-- of both, whatever the outcome
pub choose_one : {X : Type 0} (P : X → Type 0) (b : Bool) (x y : X) → P x → P y → P (cond b x y)
choose_one P true x y p q = p
choose_one P false x y p q = q

-- of two choices by one test
pub choose_both : {X : Type 0} (P : X → X → Type 0) (b : Bool) (x y v w : X) → P x v → P y w → P (cond b x y) (cond b v w)
choose_both P true x y v w p q = p
choose_both P false x y v w p q = q

-- two tests that pass together are one
pub same_test : (a b : Bool) → (a ≡ true → b ≡ true) → (b ≡ true → a ≡ true) → a ≡ b
same_test true b to from = sym (to refl)
same_test false true to from = from refl
same_test false false to from = refl

-- what a choice of an option says of its test
pub none_then : {A : Type 0} (b : Bool) (x : A) → cond b (Some x) None ≡ None → b ≡ false
none_then true x h = absurd (none-some x (sym h))
none_then false x h = refl

pub none_else : {A : Type 0} (b : Bool) (x : A) (o : Option A) → cond b o (Some x) ≡ None → (b ≡ true) × (o ≡ None)
none_else true x o h = (refl, h)
none_else false x o h = absurd (none-some x (sym h))

pub none_both : {A : Type 0} (b : Bool) (x : A) (o : Option A) → cond b (Some x) o ≡ None → (b ≡ false) × (o ≡ None)
none_both true x o h = absurd (none-some x (sym h))
none_both false x o h = (refl, h)

pub some_then : {A : Type 0} (b : Bool) (o : Option A) (x : A) → cond b o None ≡ Some x → (b ≡ true) × (o ≡ Some x)
some_then true o x h = (refl, h)
some_then false o x h = absurd (none-some x h)

pub some_else : {A : Type 0} (b : Bool) (o : Option A) (x : A) → cond b None o ≡ Some x → (b ≡ false) × (o ≡ Some x)
some_else true o x h = absurd (none-some x h)
some_else false o x h = (refl, h)
