-- Files as a finite map: what a write to one of them leaves.
use Rattle.tl_io.proofs.Common.{◌≡◌, ℕ, List, Bool, true, false, cond, None, Some, refl, sym, ap, ◌∙◌, nat_cmp, is_eq, eq_by_cmp, slice_cmp, nat_list_cmp_total, tied_itself, get, insert, remove, get-insert, get-remove, same_map, IsAntisymmetric, slice_cmp-IsAntisymmetric, nat_cmp-IsAntisymmetric, Files}
use Rattle.std.specs.declared.cmp.Ordering.{Ordering}
use Rattle.std.specs.declared.cmp.Ordering.TheVariants.{Equal}

-- the two names tie
abbrev pub is_same_name : List ℕ → List ℕ → Bool
is_same_name a b = eq_by_cmp (slice_cmp nat_cmp) a b

pub antisymmetric : IsAntisymmetric (slice_cmp nat_cmp)
antisymmetric = slice_cmp-IsAntisymmetric nat_cmp-IsAntisymmetric

pub is_tied : (o : Ordering) → is_eq o ≡ true → o ≡ Equal
is_tied Equal e = refl
is_tied o e = cc

is_same_itself : (name : List ℕ) → is_same_name name name ≡ true
is_same_itself name = ap is_eq (tied_itself nat_list_cmp_total name)

-- the file that was put there has the bytes, and the others are as before
pub get-inserted : (files : Files) (name bytes : List ℕ) → get (insert files name bytes) name ≡ Some bytes
get-inserted files name bytes = get-insert nat_list_cmp_total files name bytes name ∙ ap (λ b. cond b (Some bytes) (get files name)) (is_same_itself name)

pub get-inserted_other : (files : Files) (name bytes other : List ℕ) → is_same_name other name ≡ false → get (insert files name bytes) other ≡ get files other
get-inserted_other files name bytes other e = get-insert nat_list_cmp_total files name bytes other ∙ ap (λ b. cond b (Some bytes) (get files other)) e

-- a test that is repeated
pub first_branch : {X : Type 0} (b : Bool) (x y z : X) → cond b x (cond b y z) ≡ cond b x z
first_branch true x y z = refl
first_branch false x y z = refl

pub remove-insert : (files : Files) (name bytes : List ℕ) → remove (insert files name bytes) name ≡ remove files name
remove-insert files name bytes = same_map nat_list_cmp_total antisymmetric _ _ (λ q.
    get-remove nat_list_cmp_total (insert files name bytes) name q
    ∙ ap (cond (is_same_name q name) None) (get-insert nat_list_cmp_total files name bytes q)
    ∙ first_branch (is_same_name q name) None (Some bytes) (get files q)
    ∙ sym (get-remove nat_list_cmp_total files name q))

pub insert-remove : (files : Files) (name bytes : List ℕ) → insert (remove files name) name bytes ≡ insert files name bytes
insert-remove files name bytes = same_map nat_list_cmp_total antisymmetric _ _ (λ q.
    get-insert nat_list_cmp_total (remove files name) name bytes q
    ∙ ap (cond (is_same_name q name) (Some bytes)) (get-remove nat_list_cmp_total files name q)
    ∙ first_branch (is_same_name q name) (Some bytes) None (get files q)
    ∙ sym (get-insert nat_list_cmp_total files name bytes q))

-- a file whose bytes are known is what its name and these bytes put there
pub insert-get : (files : Files) (name bytes : List ℕ) → get files name ≡ Some bytes → insert (remove files name) name bytes ≡ files
insert-get files name bytes e = same_map nat_list_cmp_total antisymmetric _ _ (λ q.
    get-insert nat_list_cmp_total (remove files name) name bytes q
    ∙ ap (cond (is_same_name q name) (Some bytes)) (get-remove nat_list_cmp_total files name q)
    ∙ chosen q (is_same_name q name) refl)
  where
    chosen : (q : List ℕ) (b : Bool) → is_same_name q name ≡ b → cond b (Some bytes) (cond b None (get files q)) ≡ get files q
    chosen q true t = sym e ∙ ap (get files) (sym (antisymmetric q name (is_tied _ t)))
    chosen q false t = refl
