-- The forms of a `.latch` line.
use Rattle.std.specs.Prelude.{◌≡◌, ◌⊎◌, ℕ, Bool, true, false, List, [], ◌∷◌, codes, Option, Some, None}
use Rattle.netlist.specs.declared.latch.Latch.{Latch}

-- the init `1` starts at 1; `0`, `2` and `3` start at 0
pub data Starts (init : List ℕ) (value : Bool) : Type 0 where
  one : init ≡ codes "1" → value ≡ true → Starts init value
  zero_ : (init ≡ codes "0") ⊎ ((init ≡ codes "2") ⊎ (init ≡ codes "3")) → value ≡ false → Starts init value

-- the control `NIL` is no control
pub data Controls (token : List ℕ) (control : Option (List ℕ)) : Type 0 where
  nil : token ≡ codes "NIL" → control ≡ None → Controls token control
  net : ¬ (token ≡ codes "NIL") → control ≡ Some token → Controls token control

-- the words after `.latch`: input and output, then a type with its control or none, then an init or none; the type is `re`
pub data IsLatch (words : List (List ℕ)) (latch : Latch) : Type 0 where
  plain : words ≡ latch.input ∷ latch.output ∷ [] → latch.control ≡ None → latch.init ≡ false → IsLatch words latch
  with_init : (init : List ℕ) → words ≡ latch.input ∷ latch.output ∷ init ∷ [] → latch.control ≡ None → Starts init latch.init → IsLatch words latch
  with_control : (control : List ℕ) → words ≡ latch.input ∷ latch.output ∷ codes "re" ∷ control ∷ [] → Controls control latch.control → latch.init ≡ false → IsLatch words latch
  whole : (control init : List ℕ) → words ≡ latch.input ∷ latch.output ∷ codes "re" ∷ control ∷ init ∷ [] → Controls control latch.control → Starts init latch.init → IsLatch words latch
