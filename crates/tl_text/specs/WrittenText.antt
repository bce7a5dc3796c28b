-- Lines of words as they are written, with one blank between the words.
use Rattle.std.specs.Prelude.{ℕ, List, [], ◌∷◌, ◌++◌}
use Rattle.std.specs.List.{flat_map}

-- words, each after a blank (32)
abbrev pub words_text : List (List ℕ) → List ℕ
words_text words = flat_map (λ (w : List ℕ). 32 ∷ w) words

-- a line's bytes: its words with a blank between them, and a line feed (10)
abbrev pub line_text : List (List ℕ) → List ℕ
line_text [] = 10 ∷ []
line_text (word ∷ words) = word ++ (words_text words ++ 10 ∷ [])
