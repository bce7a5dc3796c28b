-- The words of a refusal's details, and which refusals are limits.
use Rattle.std.specs.Prelude.{ℕ, Bool, nat_eq, List, [], ◌∷◌, ◌++◌, codes, decimal}
use Rattle.std.specs.List.{starts_with}
use Rattle.tl_fault.specs.RefusalValue.{RefusalValue}
use Rattle.tl_fault.specs.declared.refusal.Details.{Details}
use Rattle.tl_fault.specs.declared.refusal.Details.TheVariants.{Nothing, Line, Named, Located, One, Two, Listed, Node, Width, Bits, NodeIn, Byte}

-- the words of the details
abbrev pub details_words : Details → List (List ℕ)
details_words Nothing = []
details_words (Line number) = codes "line" ∷ decimal number ∷ []
details_words (Named number name) = codes "line" ∷ decimal number ∷ name ∷ []
details_words (Located model number name) = codes "model" ∷ model ∷ codes "line" ∷ decimal number ∷ name ∷ []
details_words (One name) = name ∷ []
details_words (Two first second) = first ∷ second ∷ []
details_words (Listed names) = names
details_words (Node node) = codes "node" ∷ decimal node ∷ []
details_words (Width number width) = codes "line" ∷ decimal number ∷ codes "width" ∷ decimal width ∷ []
details_words (Bits number bits) = codes "line" ∷ decimal number ∷ codes "bits" ∷ decimal bits ∷ []
details_words (NodeIn number node) = codes "line" ∷ decimal number ∷ codes "node" ∷ decimal node ∷ []
details_words (Byte offset) = codes "byte" ∷ decimal offset ∷ []

-- words, each after a blank
abbrev pub spaced : List (List ℕ) → List ℕ
spaced [] = []
spaced (word ∷ words) = codes " " ++ (word ++ spaced words)

-- a limit's code begins with `L`
abbrev pub is_limit : RefusalValue → Bool
is_limit refusal = starts_with nat_eq refusal.code (codes "L")
