-- What is told of bytes or writes: none where an object doesn't tell.
use Rattle.std.specs.Prelude.{◌≡◌, ℕ, ◌<◌, List, ◌++◌, length, take, Option, None, Some, Result, MatchResult}

-- what is told, and then a text
abbrev pub extended : {V : Type 0} → Option (List V) → List V → Option (List V)
extended None text = None
extended (Some bytes) text = Some (bytes ++ text)

-- all of the piece was appended, or after an error a prefix of it that is shorter: so the empty piece is put without an error
abbrev pub Puts : {E : Type 0} → Option (List ℕ) → Option (List ℕ) → List ℕ → Result Unit E → Type 0
Puts old new piece result = MatchResult result
    (λ _. new ≡ extended old piece)
    (λ _. (n : ℕ) × (n < length piece) × (new ≡ extended old (take n piece)))

-- the length of a list, where it is told
abbrev pub HasLength : {V : Type 0} → Option (List V) → ℕ → Type 0
HasLength None n = Unit {0}
HasLength (Some xs) n = length xs ≡ n
