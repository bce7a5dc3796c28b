-- A file that is being read.
use Rattle.tl_io.proofs.Common.{◌≡◌, List, ℕ, ◌++◌, Option, None, Some, get, Files}

-- what was read so far and what is left are the file, where the files are told
abbrev pub IsSoFar : Option Files → List ℕ → List ℕ → Option (List ℕ) → Type 0
IsSoFar None name text left = Unit {0}
IsSoFar (Some files) name text left = (rest : List ℕ) × (left ≡ Some rest) × (get files name ≡ Some (text ++ rest))
