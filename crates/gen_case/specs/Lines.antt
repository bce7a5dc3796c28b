-- Texts by their lines, and lines by their words.
use Rattle.std.specs.Prelude.{ℕ, List, ◌++◌, codes}
use Rattle.std.specs.List.{flat_map, join_with_byte, range_with_len}

-- the words of a line with one blank (32) between each two, and a line feed
abbrev pub line_text : List (List ℕ) → List ℕ
line_text words = join_with_byte 32 words ++ codes "\n"

abbrev pub text_of : List (List (List ℕ)) → List ℕ
text_of lines = flat_map line_text lines

-- the numbers below n, from 0 on
abbrev pub below : ℕ → List ℕ
below n = range_with_len 0 n
