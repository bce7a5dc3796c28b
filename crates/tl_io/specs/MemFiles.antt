-- The files of a shelf in memory as finite maps: the first file of a name counts.
use Rattle.std.specs.Prelude.{◌≡◌, ℕ, Bool, List, drop, Option, None, Some, slice_get, string_bytes, map, position}
use Rattle.std.specs.Option.{option_map}
use Rattle.std.specs.Ordering.{nat_cmp, is_eq}
use Rattle.std.specs.Cmp.Lexicographic.{slice_cmp}
use Rattle.std.specs.FinMap.{from_entries}
use Rattle.tl_io.specs.Shelf.{Files}
use Rattle.tl_io.specs.Store.{Rooms, Store}
use Rattle.tl_io.specs.declared.mem_file.MemFile.{MemFile}
use Rattle.tl_io.specs.declared.mem_file.Activity.{Activity}
use Rattle.tl_io.specs.declared.mem_file.Activity.TheVariants.{Idle, Reading, Writing}

-- the file has this name
abbrev pub is_named : List ℕ → MemFile → Bool
is_named name file = is_eq (slice_cmp nat_cmp name (string_bytes file.name))

abbrev pub files_of : List MemFile → Files
files_of files = from_entries (map (λ file. (string_bytes file.name, file.bytes.items)) files)

abbrev pub rooms_of : List MemFile → Rooms
rooms_of files = from_entries (map (λ file. (string_bytes file.name, file.room)) files)

-- the name of the file at this index
abbrev pub name_at : List MemFile → ℕ → Option (List ℕ)
name_at files i = option_map (λ file. string_bytes file.name) (slice_get files i)

-- what is left of the file that is being read
abbrev pub left_of : List MemFile → Activity → Option (List ℕ)
left_of files Idle = None
left_of files (Reading file at) = option_map (λ file. drop at file.bytes.items) (slice_get files file)
left_of files (Writing file) = None

-- the name of the file that is being written
abbrev pub writing_of : List MemFile → Activity → Option (List ℕ)
writing_of files Idle = None
writing_of files (Reading file at) = None
writing_of files (Writing file) = name_at files file

abbrev pub store_of : List MemFile → Activity → Store
store_of files activity = record { files = files_of files; rooms = rooms_of files; left = left_of files activity; writing = writing_of files activity }

-- the file that is being written is there, and the first of its name
abbrev pub IsFirstWritten : List MemFile → Activity → Type 0
IsFirstWritten files Idle = Unit {0}
IsFirstWritten files (Reading file at) = Unit {0}
IsFirstWritten files (Writing file) = (name : List ℕ) × (name_at files file ≡ Some name) × (position (is_named name) files ≡ Some file)
