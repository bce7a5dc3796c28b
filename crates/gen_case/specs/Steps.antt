-- Parts of a line as they are written one after the other.
use Rattle.std.specs.Prelude.{ℕ, List, ◌∷◌}
use Rattle.std.specs.List.{flat_map}

-- words with a blank (32) before each
abbrev pub after_blanks : List (List ℕ) → List ℕ
after_blanks words = flat_map (λ word. 32 ∷ word) words
