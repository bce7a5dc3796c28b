-- The order of cuts: those of fewer leaves first, then lexicographically.
use Rattle.std.specs.Prelude.{ℕ, Bool, true, false, if◌then◌else◌, ◌==◌, nat_lt, List, [], ◌∷◌, length, IsTrue}
use Rattle.list_laws.specs.Members.{In}

-- the order of two lists of the same length
abbrev pub lex : List ℕ → List ℕ → Bool
lex [] b = false
lex (x ∷ xs) [] = false
lex (x ∷ xs) (y ∷ ys) = if nat_lt x y then true else if x == y then lex xs ys else false

-- fewer elements first, then the lexicographically smaller
abbrev pub before : List ℕ → List ℕ → Bool
before a b = if nat_lt (length a) (length b) then true else if length a == length b then lex a b else false

-- each before all that follow it: in order, and no set twice
abbrev pub IsOrdered : List (List ℕ) → Type 0
IsOrdered [] = Unit {0}
IsOrdered (c ∷ cs) = ((d : List ℕ) → In cs d → IsTrue (before c d)) × IsOrdered cs
