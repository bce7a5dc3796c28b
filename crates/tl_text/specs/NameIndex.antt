-- Names in the order in which they were first seen, each once.
use Rattle.std.specs.Prelude.{ℕ, List, position, Option, bytes_eq}

-- the first place of a name
abbrev pub place_of : List (List ℕ) → List ℕ → Option ℕ
place_of names name = position (bytes_eq name) names
