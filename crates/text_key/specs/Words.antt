-- Bytes as words.
use Rattle.std.specs.Prelude.{ℕ, ◌+◌, ◌*◌, ◌/◌, ◌%◌, ◌^◌, List, length, drop}
use Rattle.std.specs.List.{fold}
use Rattle.std.specs.Simd.{first_chunks}

-- a word with one byte more at its low end
abbrev pub longer : ℕ → ℕ → ℕ
longer word byte = ((word * 256) % 2 ^ 64 + byte) % 2 ^ 64

-- the words of eight bytes that bytes begin with
abbrev pub chunks_of : List ℕ → List (List ℕ)
chunks_of bytes = first_chunks 8 (length bytes / 8) bytes

-- the bytes after them
abbrev pub rest_of : List ℕ → List ℕ
rest_of bytes = drop (length bytes / 8 * 8) bytes
