-- What a change of the list of files means for the store.
use Rattle.tl_io.proofs.Common.{◌≡◌, ℕ, ◌<◌, List, [], ◌∷◌, ◌++◌, length, get_or, true, cond, Option, None, Some, is_some, refl, sym, ap, subst, ◌∙◌, arith, string_bytes, slice_get, set, position, option_map, option_map_or, option_and_then, get, insert, nat_cmp, is_eq, slice_cmp, get_or-set_same, length-set, MemFile, extended, Files, files_but, written_at, Store, Rooms, opened, created, appended, written_bytes, written_room, is_named, files_of, rooms_of, store_of, name_at, writing_of, IsFirstWritten}
use Rattle.std.proofs.lemmas.Option.{slice_get-get_or}
use Rattle.tl_io.specs.declared.mem_file.Activity.{Activity}
use Rattle.tl_io.specs.declared.mem_file.Activity.TheVariants.{Reading, Writing}
use Rattle.tl_io.proofs.FilesLemmas.{get-inserted, remove-insert}
use Rattle.tl_io.proofs.FirstNamed.{IsFirstNamed, first_named, same_text, get-files_of, get-rooms_of, get-files_none, files_of-set, rooms_of-set, position-set}

same_store : {f f' : Files} {r r' : Rooms} {l l' w w' : Option (List ℕ)} → f ≡ f' → r ≡ r' → l ≡ l' → w ≡ w'
    → ◌≡◌ {A = Store} (record { files = f; rooms = r; left = l; writing = w }) (record { files = f'; rooms = r'; left = l'; writing = w' })
same_store e g h k = λ i. record { files = e i; rooms = g i; left = h i; writing = k i }

abbrev name_of : MemFile → List ℕ
name_of file = string_bytes file.name

-- a file at an index has the name that the index was found under
named : (name : List ℕ) (files : List MemFile) (i : ℕ) (d : MemFile) → IsFirstNamed name files i → name_of (get_or files i d) ≡ name
named name files i d first = sym (same_text name (name_of (get_or files i d)) (first.here d))

name_at-set : (files : List MemFile) (i : ℕ) (y : MemFile) (name : List ℕ) → i < length files → name_of y ≡ name → name_at (set files i y) i ≡ Some name
name_at-set files i y name h e =
    let inside : i < length (set files i y) = omega (arith, length-set files i y) in
    ap (option_map (λ (file : MemFile). name_of file)) (slice_get-get_or (set files i y) i y inside) ∙ ap (λ (f : MemFile). Some (name_of f)) (get_or-set_same files i y y h) ∙ ap Some e

-- the file of the name is empty and being written
pub created_there : (files : List MemFile) (activity : Activity) (name : List ℕ) (i : ℕ) (d y : MemFile) → position (is_named name) files ≡ Some i → d ≡ get_or files i d
    → y.name ≡ d.name → y.room ≡ d.room → y.bytes.items ≡ [] → store_of (set files i y) (Writing i) ≡ created (store_of files activity) name
created_there files activity name i d y e q n r b =
    let first = first_named name files i d e in
    let old_name : name_of y ≡ name_of (get_or files i d) = ap string_bytes n ∙ ap name_of q in
    let same : name_of y ≡ name = old_name ∙ named name files i d first in
    let there : is_some (get (files_of files) name) ≡ true = ap is_some (get-files_of name files i d first) in
    same_store
    (files_of-set name files i y first same ∙ ap (insert (files_of files) name) b)
    (rooms_of-set files i y d first.below old_name (r ∙ ap (λ (f : MemFile). f.room) q))
    refl
    (name_at-set files i y name first.below same)
    ∙ sym (ap (λ t. cond t
    (record { files = insert (files_of files) name []; rooms = rooms_of files; left = None; writing = Some name })
    (record { files = files_of files; rooms = rooms_of files; left = None; writing = None })) there)

pub created_none : (files : List MemFile) (activity : Activity) (name : List ℕ) → position (is_named name) files ≡ None
    → ◌≡◌ {A = Store} (record { files = files_of files; rooms = rooms_of files; left = None; writing = None }) (created (store_of files activity) name)
created_none files activity name e =
    sym (ap (λ o. cond (is_some o)
    (record { files = insert (files_of files) name []; rooms = rooms_of files; left = None; writing = Some name })
    (record { files = files_of files; rooms = rooms_of files; left = None; writing = None })) (get-files_none name files e))

-- it is the first of its name
pub first_created : (files : List MemFile) (name : List ℕ) (i : ℕ) (d y : MemFile) → position (is_named name) files ≡ Some i → d ≡ get_or files i d
    → y.name ≡ d.name → IsFirstWritten (set files i y) (Writing i)
first_created files name i d y e q n =
    let first = first_named name files i d e in
    let old_name : name_of y ≡ name_of (get_or files i d) = ap string_bytes n ∙ ap name_of q in (
      name,
      name_at-set files i y name first.below (old_name ∙ named name files i d first),
      position-set (is_named name) files i y d (ap (λ (m : List ℕ). is_eq (slice_cmp nat_cmp name m)) old_name) ∙ e,
    )

-- the file of the name is being read from its first byte
pub opened_there : (files : List MemFile) (activity : Activity) (name : List ℕ) (i : ℕ) → position (is_named name) files ≡ Some i
    → store_of files (Reading i 0) ≡ opened (store_of files activity) name
opened_there [] activity name i e = absurd (absent e)
  where
    absent : None ≡ Some i → ⊥
    absent e = cc
opened_there (x ∷ xs) activity name i e =
    let first = first_named name (x ∷ xs) i x e in
    let here : slice_get (x ∷ xs) i ≡ Some (get_or (x ∷ xs) i x) = slice_get-get_or (x ∷ xs) i x first.below in
    same_store refl refl (ap (option_map (λ (file : MemFile). file.bytes.items)) here ∙ sym (get-files_of name (x ∷ xs) i x first)) refl

pub opened_none : (files : List MemFile) (activity : Activity) (name : List ℕ) → position (is_named name) files ≡ None
    → ◌≡◌ {A = Store} (record { files = files_of files; rooms = rooms_of files; left = None; writing = None }) (opened (store_of files activity) name)
opened_none files activity name e = same_store refl refl (sym (get-files_none name files e)) refl

-- the bytes and the room of the file that is being written
pub written_bytes_at : (files : List MemFile) (i : ℕ) (d : MemFile) → IsFirstWritten files (Writing i) → written_bytes (store_of files (Writing i)) ≡ (get_or files i d).bytes.items
written_bytes_at files i d (name, at, e) =
    ap (λ (w : Option (List ℕ)). option_map_or (λ (bytes : List ℕ). bytes) (option_and_then (λ name. get (files_of files) name) w) []) at
    ∙ ap (λ (o : Option (List ℕ)). option_map_or (λ bytes. bytes) o []) (get-files_of name files i d (first_named name files i d e))

pub written_room_at : (files : List MemFile) (i : ℕ) (d : MemFile) → IsFirstWritten files (Writing i) → written_room (store_of files (Writing i)) ≡ (get_or files i d).room
written_room_at files i d (name, at, e) =
    ap (λ (w : Option (List ℕ)). option_map_or (λ (room : ℕ). room) (option_and_then (λ name. get (rooms_of files) name) w) 0) at
    ∙ ap (λ (o : Option ℕ). option_map_or (λ room. room) o 0) (get-rooms_of name files i d (first_named name files i d e))

-- a text is appended to the file that is being written
pub appended_at : (files : List MemFile) (i : ℕ) (text : List ℕ) (d y : MemFile) → IsFirstWritten files (Writing i) → d ≡ get_or files i d
    → y.name ≡ d.name → y.room ≡ d.room → y.bytes.items ≡ d.bytes.items ++ text → store_of (set files i y) (Writing i) ≡ appended (store_of files (Writing i)) text
appended_at files i text d y (name, at, e) q n r b =
    let first = first_named name files i d e in
    let old_name : name_of y ≡ name_of (get_or files i d) = ap string_bytes n ∙ ap name_of q in
    let same : name_of y ≡ name = old_name ∙ named name files i d first in
    let bytes : written_bytes (store_of files (Writing i)) ≡ d.bytes.items = written_bytes_at files i d (name, at, e) ∙ sym (ap (λ (f : MemFile). f.bytes.items) q) in
    same_store
    (files_of-set name files i y first same
    ∙ ap (insert (files_of files) name) (b ∙ ap (λ (bs : List ℕ). bs ++ text) (sym bytes))
    ∙ sym (ap (λ (w : Option (List ℕ)). option_map_or (λ name. insert (files_of files) name (written_bytes (store_of files (Writing i)) ++ text)) w (files_of files)) at))
    (rooms_of-set files i y d first.below old_name (r ∙ ap (λ (f : MemFile). f.room) q))
    refl
    (name_at-set files i y name first.below same ∙ sym at)

-- the same at an activity that is known to be a write
pub written_bytes_in : (files : List MemFile) (activity : Activity) (i : ℕ) (d : MemFile) → activity ≡ Writing i → IsFirstWritten files activity → d ≡ get_or files i d
    → written_bytes (store_of files activity) ≡ d.bytes.items
written_bytes_in files activity i d is first q =
    ap (λ (a : Activity). written_bytes (store_of files a)) is ∙ written_bytes_at files i d (subst (λ (a : Activity). IsFirstWritten files a) is first) ∙ sym (ap (λ (f : MemFile). f.bytes.items) q)

pub written_room_in : (files : List MemFile) (activity : Activity) (i : ℕ) (d : MemFile) → activity ≡ Writing i → IsFirstWritten files activity → d ≡ get_or files i d
    → written_room (store_of files activity) ≡ d.room
written_room_in files activity i d is first q =
    ap (λ (a : Activity). written_room (store_of files a)) is ∙ written_room_at files i d (subst (λ (a : Activity). IsFirstWritten files a) is first) ∙ sym (ap (λ (f : MemFile). f.room) q)

pub appended_in : (files : List MemFile) (activity : Activity) (i : ℕ) (text : List ℕ) (d y : MemFile) → activity ≡ Writing i → IsFirstWritten files activity → d ≡ get_or files i d
    → y.name ≡ d.name → y.room ≡ d.room → y.bytes.items ≡ d.bytes.items ++ text → store_of (set files i y) activity ≡ appended (store_of files activity) text
appended_in files activity i text d y is first q n r b =
    subst (λ (a : Activity). store_of (set files i y) a ≡ appended (store_of files a) text) (sym is)
    (appended_at files i text d y (subst (λ (a : Activity). IsFirstWritten files a) is first) q n r b)

pub first_appended : (files : List MemFile) (activity : Activity) (i : ℕ) (d y : MemFile) → activity ≡ Writing i → IsFirstWritten files activity → d ≡ get_or files i d
    → y.name ≡ d.name → IsFirstWritten (set files i y) activity
first_appended files activity i d y is first q n =
    let written : IsFirstWritten files (Writing i) = subst (λ (a : Activity). IsFirstWritten files a) is first in
    subst (λ (a : Activity). IsFirstWritten (set files i y) a) (sym is) (first_created files written.0 i d y written.2 q n)

-- the file that is being written is there
pub record IsWriting (store : Store) : Type 0 where
  pub name : List ℕ
  pub bytes : List ℕ
  pub named : store.writing ≡ Some name
  pub there : get store.files name ≡ Some bytes

pub writing_there : (files : List MemFile) (activity : Activity) (i : ℕ) (d : MemFile) → activity ≡ Writing i → IsFirstWritten files activity → IsWriting (store_of files activity)
writing_there files activity i d is first =
    let written : IsFirstWritten files (Writing i) = subst (λ (a : Activity). IsFirstWritten files a) is first in
    record {
      name = written.0;
      bytes = (get_or files i d).bytes.items;
      named = ap (λ (a : Activity). writing_of files a) is ∙ written.1;
      there = get-files_of written.0 files i d (first_named written.0 files i d written.2);
    }

-- an append grows what is told of that file, and leaves the others
pub appended_grown : (s : Store) (text : List ℕ) → IsWriting s → written_at (Some (appended s text).files) s.writing ≡ extended (written_at (Some s.files) s.writing) text
appended_grown s text w =
    subst (λ (n : Option (List ℕ)). written_at (Some (appended (record s { writing = n }) text).files) n ≡ extended (written_at (Some s.files) n) text) (sym w.named)
    (get-inserted s.files w.name _ ∙ subst (λ (o : Option (List ℕ)). Some (option_map_or (λ bytes. bytes) o [] ++ text) ≡ extended o text) (sym w.there) refl)

pub appended_others : (s : Store) (text : List ℕ) → IsWriting s → files_but (Some (appended s text).files) s.writing ≡ files_but (Some s.files) s.writing
appended_others s text w =
    subst (λ (n : Option (List ℕ)). files_but (Some (appended (record s { writing = n }) text).files) n ≡ files_but (Some s.files) n) (sym w.named)
    (ap Some (remove-insert s.files w.name _))
