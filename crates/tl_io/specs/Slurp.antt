-- What a whole read gives.
use Rattle.std.specs.Prelude.{◌≡◌, ◌<◌, length, ℕ, List, Option, None, Some}
use Rattle.std.specs.FinMap.{get}
use Rattle.tl_io.specs.Shelf.{Files}

-- the file's bytes, where the files are told
abbrev pub IsFile : Option Files → List ℕ → List ℕ → Type 0
IsFile None name text = Unit {0}
IsFile (Some files) name text = get files name ≡ Some text

-- the file is longer than that, where the files are told
abbrev pub IsLonger : Option Files → List ℕ → ℕ → Type 0
IsLonger None name limit = Unit {0}
IsLonger (Some files) name limit = (text : List ℕ) × (get files name ≡ Some text) × (limit < length text)
