-- The text that a circuit is written as: its header, its lines, and the symbols of all inputs and outputs.
use Rattle.std.specs.Prelude.{ℕ, suc, Bool, true, false, List, [], ◌∷◌, ◌++◌, codes, decimal}
use Rattle.std.specs.List.{flat_map}
use Rattle.tl_text.specs.WrittenText.{line_text}
use Rattle.aiger_io.specs.Circuit.{Circuit}
use Rattle.aiger_io.specs.declared.header.Header.{Header}
use Rattle.aiger_io.specs.declared.item.Item.{Item}
use Rattle.aiger_io.specs.declared.item.Item.TheVariants.{Input, Latch, Output, And}

-- things by numbers, and the texts of things by numbers, the first of which has this number
abbrev pub numbered : {X Y : Type 0} → (ℕ → X → Y) → ℕ → List X → List Y
numbered f n [] = []
numbered f n (x ∷ xs) = f n x ∷ numbered f (suc n) xs

abbrev pub numbered_text : {X : Type 0} → (ℕ → X → List ℕ) → ℕ → List X → List ℕ
numbered_text f n [] = []
numbered_text f n (x ∷ xs) = f n x ++ numbered_text f (suc n) xs

-- the words of lines
abbrev pub header_words : Header → List (List ℕ)
header_words h = codes "aag" ∷ decimal h.variables ∷ decimal h.inputs ∷ decimal h.latches ∷ decimal h.outputs ∷ decimal h.ands ∷ []

abbrev pub init_words : Bool → List (List ℕ)
init_words true = codes "1" ∷ []
init_words false = []

abbrev pub item_words : Item → List (List ℕ)
item_words (Input own) = decimal own ∷ []
item_words (Latch own next init) = decimal own ∷ decimal next ∷ init_words init
item_words (Output l) = decimal l ∷ []
item_words (And own left right) = decimal own ∷ decimal left ∷ decimal right ∷ []

abbrev pub item_text : Item → List ℕ
item_text item = line_text (item_words item)

abbrev pub symbol_text : ℕ → ℕ → List ℕ → List ℕ
symbol_text letter ordinal name = line_text ((letter ∷ decimal ordinal) ∷ name ∷ [])

-- the letters are `i` (105) and `o` (111)
abbrev pub circuit_text : Circuit → List ℕ
circuit_text c = line_text (header_words c.header) ++ (flat_map item_text c.items ++ (numbered_text (symbol_text 105) 0 c.inputs ++ numbered_text (symbol_text 111) 0 c.outputs))
