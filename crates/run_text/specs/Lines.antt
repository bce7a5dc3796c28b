-- The lines that are put out, as bytes.
use Rattle.std.specs.Prelude.{ℕ, Bool, if◌then◌else◌, List, [], ◌∷◌, ◌++◌, length, map, codes, decimal}
use Rattle.std.specs.List.{concat, flat_map}
use Rattle.tl_io.specs.declared.Write.{Write}
use Rattle.run_text.specs.declared.part.Part.{Part}
use Rattle.run_text.specs.declared.part.Part.TheVariants.{Text, Number, Bits, Writes}

-- a bit as a digit
abbrev pub bit_digit : Bool → ℕ
bit_digit bit = if bit then 49 else 48

-- a string of 0 and 1, or - where there are no bits
abbrev pub bit_string : List Bool → List ℕ
bit_string [] = codes "-"
bit_string (bit ∷ bits) = bit_digit bit ∷ map bit_digit bits

-- how many tables there are, how many configuration bits they have, and how deep they stand
abbrev pub header_line : ℕ → ℕ → ℕ → List ℕ
header_line luts bits depth = concat (codes "luts " ∷ decimal luts ∷ codes " bits " ∷ decimal bits ∷ codes " depth " ∷ decimal depth ∷ codes "\n" ∷ [])

-- the outputs of a cycle, and the states after it
abbrev pub cycle_line : List Bool → List Bool → List ℕ
cycle_line outputs states = concat (codes "cycle " ∷ bit_string outputs ∷ codes " " ∷ bit_string states ∷ codes "\n" ∷ [])

-- how many configuration bits a pack has
abbrev pub bits_header_line : ℕ → List ℕ
bits_header_line bits = concat (codes "bits " ∷ decimal bits ∷ codes "\n" ∷ [])

-- a write after a blank: its address and its bit
abbrev pub write_text : Write → List ℕ
write_text write = codes " " ++ (decimal write.address ++ (codes "=" ++ (bit_digit write.bit ∷ [])))

-- writes after a word, and how many they are
abbrev pub writes_line : List ℕ → List Write → List ℕ
writes_line word writes = concat (word ∷ decimal (length writes) ∷ flat_map write_text writes ∷ codes "\n" ∷ [])

-- those of a change of parameters
abbrev pub set_line : List Write → List ℕ
set_line writes = writes_line (codes "set ") writes

-- those of a tick at which the circuit waits
abbrev pub wait_line : List Write → List ℕ
wait_line writes = writes_line (codes "wait ") writes

-- how many configuration bits differ from those of the values that were asked for
abbrev pub ask_line : ℕ → List ℕ
ask_line count = concat (codes "ask " ∷ decimal count ∷ codes "\n" ∷ [])

-- those that set upset bits right
abbrev pub scrub_line : List Write → List ℕ
scrub_line writes = writes_line (codes "scrub ") writes

-- a bit that was upset, with its new value
abbrev pub upset_line : Write → List ℕ
upset_line write = concat (codes "upset" ∷ write_text write ∷ codes "\n" ∷ [])

-- the bits of a configuration in the order of their addresses
abbrev pub image_line : List Bool → List ℕ
image_line config = concat (codes "image " ∷ bit_string config ∷ codes "\n" ∷ [])

-- the parts of a line
abbrev pub part_text : Part → List ℕ
part_text (Text text) = text.now
part_text (Number number) = decimal number
part_text (Bits bits) = bit_string bits.now
part_text (Writes writes) = flat_map write_text writes.now
