-- The walk of a command that makes files of its source circuit, and then prints a line.
use Rattle.std.specs.Prelude.{ℕ, List}
use Rattle.cmd_stations.specs.Words.{Files, CommandWalk, portless_walk, FileText, AreWritten, IsCut}
use Rattle.cmd_stations.specs.Mapped.{Aim}
use Rattle.cmd_stations.specs.Source.{source_reading, SourceWords}

-- what is made of accepted files, with what becomes of the texts that are written and of the line
abbrev pub writing_walk : Aim → SourceWords → (Files → Type 0) → (Files → (List FileText → List ℕ → Type 0) → Type 0) → CommandWalk
writing_walk aim words IsAccepted HasMade =
    portless_walk (source_reading aim words) IsAccepted (λ files old new. HasMade files (λ texts line. AreWritten texts line old new)) (λ files old new. HasMade files (λ texts line. IsCut texts line old new))
    (λ files old new. Unit {0}) (Unit {0})
