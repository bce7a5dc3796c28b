-- The first file of a name in a list of files, and what a change of it means for the finite map.
use Rattle.tl_io.proofs.Common.{◌≡◌, ℕ, zero, suc, ◌<◌, ◌≤◌, List, [], ◌∷◌, length, get_or, Bool, true, false, cond, Option, None, Some, is_some, map, refl, sym, ap, ◌∙◌, arith, string_bytes, set, position, nat_lt, length-set, nat_cmp, is_eq, eq_by_cmp, slice_cmp, nat_list_cmp_total, tied_itself, find, get, insert, from_entries, get-from_entries, get-insert, same_map, MemFile, is_named, files_of, rooms_of}
use Rattle.std.specs.List.{position_or_len}
use Rattle.std.proofs.lemmas.List.Folds.{position_or_len-set}
use Rattle.std.proofs.lemmas.List.Sums.{fails_before_first}
use Rattle.std.proofs.lemmas.Bool.Decides.{nat_tests}
use Rattle.std.proofs.lemmas.List.Quantifiers.{position-Some}
use Rattle.tl_io.proofs.FilesLemmas.{antisymmetric, is_tied, first_branch}

-- this is the first file of the name
pub record IsFirstNamed (name : List ℕ) (files : List MemFile) (i : ℕ) : Type 0 where
  pub below : i < length files
  pub here : (d : MemFile) → is_named name (get_or files i d) ≡ true
  pub before : (k : ℕ) (d : MemFile) → k < i → is_named name (get_or files k d) ≡ false

pub first_named : (name : List ℕ) (files : List MemFile) (i : ℕ) (d : MemFile) → position (is_named name) files ≡ Some i → IsFirstNamed name files i
first_named name files i d e = record {
  below = (position-Some (is_named name) files i d e).0;
  here = λ x. (position-Some (is_named name) files i x e).1;
  before = λ k x. (position-Some (is_named name) files i x e).2 k;
}

-- texts that tie are one
pub same_text : (a b : List ℕ) → is_eq (slice_cmp nat_cmp a b) ≡ true → a ≡ b
same_text a b e = antisymmetric a b (is_tied (slice_cmp nat_cmp a b) e)

-- a file's name and something of it
abbrev entries : {X : Type 0} → (MemFile → X) → List MemFile → List (List ℕ × X)
entries f files = map (λ file. (string_bytes file.name, f file)) files

abbrev found : {X : Type 0} → (MemFile → X) → List MemFile → List ℕ → Option X
found f files name = find (slice_cmp nat_cmp) name (entries f files)

-- two tests that don't both pass change places
swapped : {X : Type 0} (a b : Bool) (x y z : X) → (a ≡ true → b ≡ true → ⊥) → cond a x (cond b y z) ≡ cond b y (cond a x z)
swapped true true x y z apart = absurd (apart refl refl)
swapped a b x y z apart = refl

-- what stands at the first file of a name is found under it
pub found_first : {X : Type 0} (f : MemFile → X) (name : List ℕ) (files : List MemFile) (i : ℕ) (d : MemFile) → i < length files
    → is_named name (get_or files i d) ≡ true → ((k : ℕ) → k < i → is_named name (get_or files k d) ≡ false) → found f files name ≡ Some (f (get_or files i d))
found_first f name [] i d below here before = absurd (omega arith)
found_first f name (x ∷ xs) zero d below here before = ap (λ b. cond b (Some (f x)) (found f xs name)) here
found_first f name (x ∷ xs) (suc i) d below here before =
    let first : is_named name x ≡ false = before 0 (omega arith) in
    ap (λ b. cond b (Some (f x)) (found f xs name)) first
    ∙ found_first f name xs i d (omega arith) here (λ k h. before (suc k) (omega arith))

pub found_none : {X : Type 0} (f : MemFile → X) (name : List ℕ) (files : List MemFile) → position (is_named name) files ≡ None → found f files name ≡ None
found_none f name files e = each files (λ k d h. fails_before_first (is_named name) files k d (omega (arith, all_before e, h)))
  where
    all_before : position (is_named name) files ≡ None → length files ≤ position_or_len (is_named name) files
    all_before e = grind (arith, nat_tests)

    each : (xs : List MemFile) → ((k : ℕ) (d : MemFile) → k < length xs → is_named name (get_or xs k d) ≡ false) → found f xs name ≡ None
    each [] none = refl
    each (x ∷ xs) none =
        let first : is_named name x ≡ false = none 0 x (omega arith) in
        ap (λ b. cond b (Some (f x)) (found f xs name)) first ∙ each xs (λ k d h. none (suc k) d (omega arith))

-- to replace the first file of a name by another of the name is to put that one in front of all
pub found-set : {X : Type 0} (f : MemFile → X) (name q : List ℕ) (files : List MemFile) (i : ℕ) (y d : MemFile) → i < length files
    → is_named name (get_or files i d) ≡ true → ((k : ℕ) → k < i → is_named name (get_or files k d) ≡ false) → string_bytes y.name ≡ name
    → found f (set files i y) q ≡ cond (eq_by_cmp (slice_cmp nat_cmp) q name) (Some (f y)) (found f files q)
found-set f name q [] i y d below here before same = absurd (omega arith)
found-set f name q (x ∷ xs) zero y d below here before same =
    let n : name ≡ string_bytes x.name = same_text name (string_bytes x.name) here in
    ap (λ (m : List ℕ). cond (is_eq (slice_cmp nat_cmp q m)) (Some (f y)) (found f xs q)) same
    ∙ sym (first_branch (is_eq (slice_cmp nat_cmp q name)) (Some (f y)) (Some (f x)) (found f xs q))
    ∙ ap (λ (m : List ℕ). cond (is_eq (slice_cmp nat_cmp q name)) (Some (f y)) (cond (is_eq (slice_cmp nat_cmp q m)) (Some (f x)) (found f xs q))) n
found-set f name q (x ∷ xs) (suc i) y d below here before same =
    let first : is_named name x ≡ false = before 0 (omega arith) in
    ap (λ o. cond (is_eq (slice_cmp nat_cmp q (string_bytes x.name))) (Some (f x)) o) (found-set f name q xs i y d (omega arith) here (λ k h. before (suc k) (omega arith)) same)
    ∙ swapped (is_eq (slice_cmp nat_cmp q (string_bytes x.name))) (is_eq (slice_cmp nat_cmp q name)) (Some (f x)) (Some (f y)) (found f xs q)
    (λ tx tn. let e : name ≡ string_bytes x.name = sym (same_text q name tn) ∙ same_text q (string_bytes x.name) tx in
    let t : is_eq (slice_cmp nat_cmp name (string_bytes x.name)) ≡ true = ap (λ (m : List ℕ). is_eq (slice_cmp nat_cmp name m)) (sym e) ∙ ap is_eq (tied_itself nat_list_cmp_total name) in
    cc)

abbrev bytes_of : MemFile → List ℕ
bytes_of file = file.bytes.items

abbrev room_of : MemFile → ℕ
room_of file = file.room

-- the bytes at the first file of a name are the map's under it
pub get-files_of : (name : List ℕ) (files : List MemFile) (i : ℕ) (d : MemFile) → IsFirstNamed name files i → get (files_of files) name ≡ Some (get_or files i d).bytes.items
get-files_of name files i d first =
    get-from_entries nat_list_cmp_total (entries bytes_of files) name ∙ found_first bytes_of name files i d first.below (first.here d) (λ k h. first.before k d h)

pub get-rooms_of : (name : List ℕ) (files : List MemFile) (i : ℕ) (d : MemFile) → IsFirstNamed name files i → get (rooms_of files) name ≡ Some (get_or files i d).room
get-rooms_of name files i d first =
    get-from_entries nat_list_cmp_total (entries room_of files) name ∙ found_first room_of name files i d first.below (first.here d) (λ k h. first.before k d h)

pub get-files_none : (name : List ℕ) (files : List MemFile) → position (is_named name) files ≡ None → get (files_of files) name ≡ None
get-files_none name files e = get-from_entries nat_list_cmp_total (entries bytes_of files) name ∙ found_none bytes_of name files e

-- to write the first file of a name is to write it in the map
pub files_of-set : (name : List ℕ) (files : List MemFile) (i : ℕ) (y : MemFile) → IsFirstNamed name files i → string_bytes y.name ≡ name
    → files_of (set files i y) ≡ insert (files_of files) name y.bytes.items
files_of-set name files i y first same =
    same_map nat_list_cmp_total antisymmetric _ _ (λ q.
    get-from_entries nat_list_cmp_total (entries bytes_of (set files i y)) q
    ∙ found-set bytes_of name q files i y y first.below (first.here y) (λ k h. first.before k y h) same
    ∙ sym (get-insert nat_list_cmp_total (files_of files) name y.bytes.items q
    ∙ ap (cond (eq_by_cmp (slice_cmp nat_cmp) q name) (Some y.bytes.items)) (get-from_entries nat_list_cmp_total (entries bytes_of files) q)))

-- to write a file with its name and its room leaves the rooms
pub rooms_of-set : (files : List MemFile) (i : ℕ) (y d : MemFile) → i < length files → string_bytes y.name ≡ string_bytes (get_or files i d).name → y.room ≡ (get_or files i d).room
    → rooms_of (set files i y) ≡ rooms_of files
rooms_of-set files i y d h same_name same_room = ap from_entries (each files i h same_name same_room)
  where
    each : (xs : List MemFile) (i : ℕ) → i < length xs → string_bytes y.name ≡ string_bytes (get_or xs i d).name → y.room ≡ (get_or xs i d).room
        → entries room_of (set xs i y) ≡ entries room_of xs
    each [] i h n r = absurd (omega arith)
    each (x ∷ xs) zero h n r = ap (λ (p : List ℕ × ℕ). p ∷ entries room_of xs) (cc)
    each (x ∷ xs) (suc i) h n r = ap (λ (ps : List (List ℕ × ℕ)). (string_bytes x.name, x.room) ∷ ps) (each xs i (omega arith) n r)

-- a file of the same name in a file's place changes no first place
pub position-set : (p : MemFile → Bool) (xs : List MemFile) (i : ℕ) (y d : MemFile) → p y ≡ p (get_or xs i d) → position p (set xs i y) ≡ position p xs
position-set p xs i y d e =
    let at : position_or_len p (set xs i y) ≡ position_or_len p xs = position_or_len-set p xs i y d e in
    let long : length (set xs i y) ≡ length xs = length-set xs i y in
    λ j. cond (nat_lt (at j) (long j)) (Some (at j)) None

pub is_some_there : (name : List ℕ) (files : List MemFile) (i : ℕ) → position (is_named name) files ≡ Some i → is_some (get (files_of files) name) ≡ true
is_some_there name [] i e = absurd (absent e)
  where
    absent : None ≡ Some i → ⊥
    absent e = cc
is_some_there name (x ∷ xs) i e = ap is_some (get-files_of name (x ∷ xs) i x (first_named name (x ∷ xs) i x e))
