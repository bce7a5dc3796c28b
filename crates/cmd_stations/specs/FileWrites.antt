-- What the writing of files does.
use Rattle.std.specs.Prelude.{◌≡◌, ℕ, List, Option, Result, MatchResult}
use Rattle.cmd_stations.specs.Words.{Files, with_file, Outside, FileText, HasPrefix, AreWritten, IsCut}

-- one file: it has its bytes, or after an error not all of them
abbrev pub WritesFile : {E : Type 0} → FileText → Option Files → Option Files → Result Unit E → Type 0
WritesFile text old new result = MatchResult result (λ _. new ≡ with_file old text.name text.bytes) (λ _. HasPrefix text old new)

-- files and then a line: all are there, or after an error all up to the place of the fault, and nothing after it
abbrev pub WritesAll : {E : Type 0} → List FileText → List ℕ → Outside → Outside → Result Unit E → Type 0
WritesAll texts line old new result = MatchResult result (λ _. AreWritten texts line old new) (λ _. IsCut texts line old new)
