-- Writes that are copied into an array of C.
use Rattle.std.specs.Prelude.{List, [], ◌∷◌}
use Rattle.tl_io.specs.declared.Write.{Write}
use Rattle.tlut_host.specs.declared.setting.BitWrite.{BitWrite}

abbrev pub bit_write : Write → BitWrite
bit_write w = record { address = w.address; bit = w.bit }

-- the array with as many of some values as it has room for, in its first places, each made by a function
abbrev pub copied_by : {A B : Type 0} → (A → B) → List A → List B → List B
copied_by make [] places = places
copied_by make (y ∷ ys) [] = []
copied_by make (y ∷ ys) (p ∷ places) = make y ∷ copied_by make ys places

-- of writes
abbrev pub copied : List Write → List BitWrite → List BitWrite
copied writes places = copied_by bit_write writes places

-- of bits and bytes, which are copied as they are
abbrev pub copied_plain : {A : Type 0} → List A → List A → List A
copied_plain ys places = copied_by (λ y. y) ys places
