-- A depth-first walk without memory: the first node that is met again on the current path.
use Rattle.std.specs.Prelude.{◌≡◌, List, [], ◌∷◌, Option, Some, None}
use Rattle.netlist.specs.Circuits.{In}

-- a node that is met again, and the path on which it stands, the last first
pub record Repeat (N : Type 0) : Type 0 where
  pub node : N
  pub path : List N

-- the walk from a node, and from several in turn, gives the first repeat or none
mutual
  pub data Meets {N : Type 0} (next : N → List N) : List N → N → Option (Repeat N) → Type 0 where
    met : {path : List N} {n : N} {result : Option (Repeat N)} → In path n → result ≡ Some (record { node = n; path = path }) → Meets next path n result
    goes : {path : List N} {n : N} {result : Option (Repeat N)} → ¬ (In path n) → MeetsAll next (n ∷ path) (next n) result → Meets next path n result

  pub data MeetsAll {N : Type 0} (next : N → List N) : List N → List N → Option (Repeat N) → Type 0 where
    none : {path ns : List N} {result : Option (Repeat N)} → ns ≡ [] → result ≡ None → MeetsAll next path ns result
    first : {path ns : List N} {result : Option (Repeat N)} (n : N) (rest : List N) (repeat : Repeat N) → ns ≡ n ∷ rest → Meets next path n (Some repeat) → result ≡ Some repeat → MeetsAll next path ns result
    later : {path ns : List N} {result : Option (Repeat N)} (n : N) (rest : List N) → ns ≡ n ∷ rest → Meets next path n None → MeetsAll next path rest result → MeetsAll next path ns result
