-- The files of a shelf in memory, one of which is read or written, and what the calls on them leave.
use Rattle.std.specs.Prelude.{refl, ℕ, ◌-◌, if◌then◌else◌, List, [], ◌++◌, length, Option, None, Some, is_some}
use Rattle.std.specs.Option.{option_map_or, option_and_then}
use Rattle.std.specs.Ordering.{nat_cmp}
use Rattle.std.specs.Cmp.Lexicographic.{slice_cmp}
use Rattle.std.specs.FinMap.{FinMap, get, insert, empty, code}
use Rattle.std.specs.Coded.{Coded, code_by, coded×, coded_ℕ, coded_list, coded_option}
use Rattle.tl_io.specs.Shelf.{Files}

-- how many bytes each file has room for
abbrev pub Rooms : Type 0
Rooms = FinMap (slice_cmp nat_cmp) ℕ

pub record Store : Type 0 where
  pub files : Files
  pub rooms : Rooms
  -- what is left of the file that is being read
  pub left : Option (List ℕ)
  -- the name of the file that is being written
  pub writing : Option (List ℕ)

-- a store is kept as the tuple of its parts
abbrev pub store_code : Coded Store
store_code =
    code_by ((Files × Rooms) × (Option (List ℕ) × Option (List ℕ)))
    (coded× (coded× (code (coded_list coded_ℕ) (coded_list coded_ℕ)) (code (coded_list coded_ℕ) coded_ℕ)) (coded× (coded_option (coded_list coded_ℕ)) (coded_option (coded_list coded_ℕ))))
    (λ s. ((s.files, s.rooms), (s.left, s.writing)))
    (λ p. record { files = p.0.0; rooms = p.0.1; left = p.1.0; writing = p.1.1 })
    (λ _. refl)

-- no file
abbrev pub no_files : Store
no_files = record { files = empty; rooms = empty; left = None; writing = None }

-- a file with room for so many bytes when it is written is put there, and nothing is read or written any more
abbrev pub added : Store → List ℕ → List ℕ → ℕ → Store
added store name bytes room = record { files = insert store.files name bytes; rooms = insert store.rooms name room; left = None; writing = None }

-- nothing is read or written any more
abbrev pub closed : Store → Store
closed store = record store { left = None; writing = None }

-- the file of this name is being read from its first byte, if it is there
abbrev pub opened : Store → List ℕ → Store
opened store name = record store { left = get store.files name; writing = None }

-- the file of this name is empty and being written, if it is there
abbrev pub created : Store → List ℕ → Store
created store name =
    if is_some (get store.files name) then record store { files = insert store.files name []; left = None; writing = Some name }
    else record store { left = None; writing = None }

-- the bytes of the file that is being written
abbrev pub written_bytes : Store → List ℕ
written_bytes store = option_map_or (λ bytes. bytes) (option_and_then (λ name. get store.files name) store.writing) []

-- how many bytes that file has room for
abbrev pub written_room : Store → ℕ
written_room store = option_map_or (λ room. room) (option_and_then (λ name. get store.rooms name) store.writing) 0

-- how many bytes it has room for beside those
abbrev pub room_left : Store → ℕ
room_left store = written_room store - length (written_bytes store)

-- a text is appended to it
abbrev pub appended : Store → List ℕ → Store
appended store text = record store { files = option_map_or (λ name. insert store.files name (written_bytes store ++ text)) store.writing store.files }
