-- What a shelf of files means, and what its calls do.
use Rattle.std.specs.Prelude.{◌≡◌, ◌⊎◌, ℕ, ◌+◌, ◌-◌, ◌^◌, ◌<◌, ◌≤◌, min, Bool, true, false, List, [], length, take, drop, Option, None, Some, Result, MatchResult, IsSome}
use Rattle.std.specs.Option.{option_map}
use Rattle.std.specs.Ordering.{nat_cmp}
use Rattle.std.specs.Cmp.Lexicographic.{slice_cmp}
use Rattle.std.specs.FinMap.{FinMap, get, insert, remove, empty}

-- files by the bytes of their names
abbrev pub Files : Type 0
Files = FinMap (slice_cmp nat_cmp) (List ℕ)

-- everything that a shelf means
pub record ShelfSeen : Type 0 where
  -- the files, where they are told
  pub files : Option Files
  -- a file is being read
  pub is_reading : Bool
  -- what is left of it, where that is told
  pub left : Option (List ℕ)
  -- a file is being written
  pub is_writing : Bool
  -- the name of that file, where it is told
  pub writing : Option (List ℕ)
  -- the first 4,096 bytes of the name last given to begin_read
  pub name : List ℕ
  -- the bytes given since that call, up to the count's end
  pub given : ℕ
  -- the read faults just before that call
  pub before : ℕ
  pub read_faults : ℕ
  pub write_faults : ℕ

-- a file's bytes, where the files are told and it is there
abbrev pub file_at : Option Files → List ℕ → Option (List ℕ)
file_at None name = None
file_at (Some files) name = get files name

-- the file is there, where the files are told
abbrev pub IsThere : Option Files → List ℕ → Type 0
IsThere None name = Unit {0}
IsThere (Some files) name = IsSome (get files name)

-- the files, with this one put there
abbrev pub with_file : Option Files → List ℕ → List ℕ → Option Files
with_file files name bytes = option_map (λ files. insert files name bytes) files

-- the files, with this one empty
abbrev pub emptied : Option Files → List ℕ → Option Files
emptied files name = with_file files name []

-- the bytes of the file being written, where they are told
abbrev pub written_at : Option Files → Option (List ℕ) → Option (List ℕ)
written_at files None = None
written_at files (Some name) = file_at files name

-- the files but the one of this name, where the name is told
abbrev pub files_but : Option Files → Option (List ℕ) → Option Files
files_but files None = files
files_but files (Some name) = option_map (λ files. remove files name) files

abbrev pub written : ShelfSeen → Option (List ℕ)
written shelf = written_at shelf.files shelf.writing

-- a shelf apart from what a `push` changes: the file being written and the count of write faults
abbrev pub apart : ShelfSeen → ShelfSeen
apart shelf = record shelf { files = files_but shelf.files shelf.writing; write_faults = 0 }

-- what stands behind a sink that writes to no shelf
abbrev pub no_shelf : ShelfSeen
no_shelf = record {
  files = Some empty;
  is_reading = false;
  left = None;
  is_writing = false;
  writing = None;
  name = [];
  given = 0;
  before = 0;
  read_faults = 0;
  write_faults = 0;
}

-- a file is opened at its first byte, or after an error nothing is being read
abbrev pub Begins : {E : Type 0} → ShelfSeen → List ℕ → ShelfSeen → Result Unit E → Type 0
Begins old name new result = MatchResult result
    (λ _. IsThere old.files name × (new.is_reading ≡ true) × (new.left ≡ file_at old.files name))
    (λ _. new.is_reading ≡ false)

-- the next bytes of what is left, or its end
abbrev pub Gives : Option (List ℕ) → Option (List ℕ) → ℕ → List ℕ → Type 0
Gives None left n buf = left ≡ None
Gives (Some bytes) left n buf = (take n buf ≡ take n bytes) × (n ≤ length bytes) × (left ≡ Some (drop n bytes)) × (n ≡ 0 → 0 < length buf → bytes ≡ [])

-- the next bytes are given and counted, or after an error none
abbrev pub Pulls : {E : Type 0} → ShelfSeen → ShelfSeen → List ℕ → Result ℕ E → Type 0
Pulls old new buf result = MatchResult result
    (λ n. (n ≤ length buf) × (new.given ≡ min (old.given + n) (2 ^ 64 - 1)) × Gives old.left new.left n buf)
    (λ _. (new.given ≡ old.given) × (new.left ≡ old.left))

-- the file is empty and being written, or after an error as before or empty, and nothing is being written
abbrev pub BeginsWrite : {E : Type 0} → ShelfSeen → List ℕ → ShelfSeen → Result Unit E → Type 0
BeginsWrite old name new result = MatchResult result
    (λ _. (new.is_writing ≡ true) × (new.writing ≡ option_map (λ _. name) old.files) × (new.files ≡ emptied old.files name))
    (λ _. (new.is_writing ≡ false) × ((new.files ≡ old.files) ⊎ (new.files ≡ emptied old.files name)))
