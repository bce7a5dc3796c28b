-- How numbers stand in a pack file: their spelling, and what some bytes begin with.
use Rattle.std.specs.Prelude.{ℕ, zero, suc, ◌+◌, ◌-◌, ◌*◌, ◌/◌, ◌%◌, if◌then◌else◌, ◌==◌, nat_lt, List, [], ◌∷◌, length, take, drop, Result, Ok, Err}
use Rattle.std.specs.Int.{Width, byte_len, to_be_bytes, from_be_bytes}
use Rattle.ppc_file.specs.declared.pack_err.PackErr.{PackErr}
use Rattle.ppc_file.specs.declared.pack_err.PackErr.TheVariants.{Truncated, BadNumber}
use Rattle.ppc_file.specs.declared.version.Version.{Version}
use Rattle.ppc_file.specs.declared.version.Version.TheVariants.{One, Two}

-- a number by bytes of seven bits, the lowest first, at most so many: each byte but the last has its top bit set
abbrev pub sevens : ℕ → ℕ → List ℕ
sevens zero n = []
sevens (suc left) n = if nat_lt n 128 then n ∷ [] else (128 + n % 128) ∷ sevens left (n / 128)

-- the spelling of a number in a version: its bytes from the highest on, as many as the field has; or bytes of seven bits, at most five
abbrev pub spelled : Version → Width → ℕ → List ℕ
spelled One w n = to_be_bytes w n
spelled Two w n = sevens 5 n

-- a field that is read: its value and the bytes after it, or why it is refused
abbrev pub Field : Type 0 → Type 0
Field A = Result (A × List ℕ) PackErr

-- one field and then another
infixl 10 ◌>>=◌
abbrev pub ◌>>=◌ : {A B : Type 0} → Result A PackErr → (A → Result B PackErr) → Result B PackErr
(Ok x) >>= f = f x
(Err e) >>= f = Err e

-- a field whose value a test may refuse
abbrev pub unless_over : ℕ → PackErr → Field ℕ → Field ℕ
unless_over most e (Ok x) = if nat_lt most x.0 then Err e else Ok x
unless_over most e (Err f) = Err f

-- the place in a file of so many bytes, by what is left of it
abbrev pub offset : ℕ → List ℕ → ℕ
offset total rest = total - length rest

-- a byte with the top bit set, before the other bytes of a number: if the last one is 0, it isn't needed
abbrev pub behind_byte : ℕ → ℕ → Field ℕ → Field ℕ
behind_byte at low (Ok x) = if x.0 == 0 then Err (BadNumber at) else Ok (low + 128 * x.0, x.1)
behind_byte at low (Err e) = Err e

-- the number at a place that some bytes begin with, of so many bytes at most
abbrev pub sevens_at : ℕ → ℕ → List ℕ → Field ℕ
sevens_at at zero rest = Err (BadNumber at)
sevens_at at (suc left) [] = Err (Truncated at)
sevens_at at (suc left) (b ∷ rest) = if nat_lt b 128 then Ok (b, rest) else behind_byte at (b - 128) (sevens_at at left rest)

-- the number that some bytes begin with
abbrev pub number_at : ℕ → Version → Width → List ℕ → Field ℕ
number_at total One w rest =
    if nat_lt (length rest) (byte_len w) then Err (Truncated (offset total rest))
    else Ok (from_be_bytes w (take (byte_len w) rest), drop (byte_len w) rest)
number_at total Two w rest = unless_over 4294967295 (BadNumber (offset total rest)) (sevens_at (offset total rest) 5 rest)
