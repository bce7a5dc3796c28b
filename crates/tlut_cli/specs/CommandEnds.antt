-- How the command that was run ended.
use Rattle.std.specs.Prelude.{◌≡◌, ◌⊎◌, ℕ, List, Some}
use Rattle.tlut_cli.specs.Words.{Rule, HasLaws, Outcome}
use Rattle.tlut_cli.specs.Call.{World, WalkEnds}
use Rattle.tlut_cli.specs.Commands.{Subcommand, command_of, walk_of}

-- what its outcome says, that the files are as before or it writes files, and the laws of its walk
pub record HasEnded (command : Subcommand) (before after : World) (o : Outcome) : Type 0 where
  pub ends : WalkEnds (walk_of command) before after o
  pub files : (after.shelf.files ≡ before.shelf.files) ⊎ (walk_of command).WritesFiles
  pub laws : HasLaws (walk_of command)

-- the walk of the words' command, where they are one, has its laws
abbrev pub HasWalkLaws : Rule → ℕ → List (List ℕ) → Type 0
HasWalkLaws rule ports words = (command : Subcommand) → command_of rule ports words ≡ Some command → HasLaws (walk_of command)
