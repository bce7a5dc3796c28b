-- A worked example of the definitions: a main model that places an inverter.
use Rattle.blif_flat.proofs.Common.{◌≡◌, ℕ, Bool, true, List, [], ◌∷◌, codes, Some, None, refl, sym, ap, ◌∙◌, inl, inr, Zero, Cover, Subckt, Connection, cover_value, ModelValue, Path, CoverAt, ConnectionAt, cover_net, Drives, cover_output, from_inside, UnknownModel, RecursiveModel, UnknownFormal, Unconnected, DoublyDriven, Undriven, Fits, SubcktLine, line_fault, Weighs, model_fault, CoverValue, SubcktValue, LibraryValue}
use Rattle.netlist.specs.Weight as weight

-- .model top / .inputs a / .outputs y / .subckt inv i=a o=y / .model inv / .inputs i / .outputs o / .names i o / 0 1
abbrev flip : CoverValue
flip = record { inputs = codes "i" ∷ []; output = codes "o"; value = true; rows = record { cells = Zero ∷ [] } ∷ [] }

abbrev in_pair : Connection
in_pair = record { formal = codes "i"; actual = codes "a" }

abbrev out_pair : Connection
out_pair = record { formal = codes "o"; actual = codes "y" }

abbrev placing : SubcktValue
placing = record { model = codes "inv"; pairs = in_pair ∷ out_pair ∷ [] }

abbrev top : ModelValue
top = record { name = codes "top"; line = 1; inputs = codes "a" ∷ []; outputs = codes "y" ∷ []; clocks = []; commands = record { line = 4; body = Subckt placing } ∷ [] }

abbrev inverter : ModelValue
inverter = record { name = codes "inv"; line = 5; inputs = codes "i" ∷ []; outputs = codes "o" ∷ []; clocks = []; commands = record { line = 8; body = Cover flip } ∷ [] }

abbrev library : LibraryValue
library = record { models = top ∷ inverter ∷ [] }

-- the inverter stands at the instance 0, and its connections lead to it
cover_there : CoverAt library (0 ∷ []) 0 flip
cover_there = record { model = inverter; at = refl; is = refl }

in_there : ConnectionAt library [] 0 in_pair
in_there = record { model = top; subckt = placing; child = inverter; at = refl; is = refl; member = inl refl; places = refl }

abbrev out_there : ConnectionAt library [] 0 out_pair
out_there = record { model = top; subckt = placing; child = inverter; at = refl; is = refl; member = inr (inl refl); places = refl }

-- The inverter inside drives the output outside, whose net is written 0/o.
output_driven : Drives library [] (codes "y") (cover_net (0 ∷ []) 0)
output_driven = from_inside 0 out_pair out_there refl refl (cover_output 0 flip cover_there refl refl)

-- Whatever values fit, the output is the complement of the input.
output_value : (x : List ℕ → Bool) (s : Path → ℕ → Bool) (value : Path → List ℕ → Bool) → Fits library x s value → value [] (codes "y") ≡ cover_value flip (value [] (codes "a") ∷ [])
output_value x s value f = f.connections [] 0 out_pair out_there ∙ f.covers (0 ∷ []) 0 flip cover_there ∙ ap (λ b. cover_value flip (b ∷ [])) (sym (f.connections [] 0 in_pair in_there))

-- its weight: two ports, two connections, one model; and two ports, two names, one model
weight_of_top : Weighs library top 10
weight_of_top =
    weight.weighs 5 (weight.more placing [] inverter 5 0 refl refl (weight.weighs 0 (weight.none refl refl) refl) (weight.none refl refl) refl) refl

-- refusals of a `.subckt` line in the main model
abbrev line_of : SubcktValue → SubcktLine
line_of s = record { line = 4; subckt = s }

fine_line : line_fault library (codes "top" ∷ []) top (line_of placing) ≡ None
fine_line = refl

unknown_model : line_fault library (codes "top" ∷ []) top (line_of (record placing { model = codes "buf" })) ≡ Some (UnknownModel (codes "top") 4 (codes "buf"))
unknown_model = refl

recursive_model : line_fault library (codes "inv" ∷ codes "top" ∷ []) inverter (line_of (record placing { model = codes "top" })) ≡ Some (RecursiveModel (codes "top" ∷ codes "inv" ∷ codes "top" ∷ []))
recursive_model = refl

unknown_formal : line_fault library (codes "top" ∷ []) top (line_of (record placing { pairs = in_pair ∷ record { formal = codes "z"; actual = codes "y" } ∷ [] })) ≡ Some (UnknownFormal (codes "top") 4 (codes "z"))
unknown_formal = refl

unconnected : line_fault library (codes "top" ∷ []) top (line_of (record placing { pairs = out_pair ∷ [] })) ≡ Some (Unconnected (codes "top") 4 (codes "i"))
unconnected = refl

-- and of drivers
fine_model : model_fault library top ≡ None
fine_model = refl

driven_input : model_fault library (record top { commands = record { line = 4; body = Subckt (record placing { pairs = in_pair ∷ record { formal = codes "o"; actual = codes "a" } ∷ [] }) } ∷ [] })
    ≡ Some (DoublyDriven (codes "top") 4 (codes "a"))
driven_input = refl

undriven_output : model_fault library (record top { outputs = codes "y" ∷ codes "z" ∷ [] }) ≡ Some (Undriven (codes "top") 1 (codes "z"))
undriven_output = refl
