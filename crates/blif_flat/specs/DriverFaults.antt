-- The refusals of drivers: within each walked model the names that are driven twice, then those that are read and aren't driven.
use Rattle.std.specs.Prelude.{ℕ, if◌then◌else◌, List, [], ◌∷◌, ◌++◌, Option, Some, None}
use Rattle.std.specs.Option.{option_or as or_later, option_to_list as control_names}
use Rattle.blif_flat.specs.Circuits.{model_named, has_name, is_input, is_output, inputs_of, Body, Cover, Latch, Subckt, Command, Connection, ModelValue, LibraryValue, FlatErr, DoublyDriven, Undriven}

-- the actuals of the output connections, and those of the input connections, in the order of the line
abbrev pub output_actuals : ModelValue → List Connection → List (List ℕ)
output_actuals child [] = []
output_actuals child (pair ∷ pairs) = if is_output child pair.formal then pair.actual ∷ output_actuals child pairs else output_actuals child pairs

abbrev pub input_actuals : ModelValue → List Connection → List (List ℕ)
input_actuals child [] = []
input_actuals child (pair ∷ pairs) = if is_input child pair.formal then pair.actual ∷ input_actuals child pairs else input_actuals child pairs

abbrev pub driven_pairs : Option ModelValue → List Connection → List (List ℕ)
driven_pairs None pairs = []
driven_pairs (Some child) pairs = output_actuals child pairs

abbrev pub read_pairs : Option ModelValue → List Connection → List (List ℕ)
read_pairs None pairs = []
read_pairs (Some child) pairs = input_actuals child pairs

-- the names that a command drives
abbrev pub drives : LibraryValue → Body → List (List ℕ)
drives library (Cover c) = c.output ∷ []
drives library (Latch l) = l.output ∷ []
drives library (Subckt s) = driven_pairs (model_named library.models s.model) s.pairs

-- and those that it reads
abbrev pub reads : LibraryValue → Body → List (List ℕ)
reads library (Cover c) = c.inputs
reads library (Latch l) = l.input ∷ control_names l.control
reads library (Subckt s) = read_pairs (model_named library.models s.model) s.pairs

abbrev pub all_drives : LibraryValue → List Command → List (List ℕ)
all_drives library [] = []
all_drives library (c ∷ cs) = drives library c.body ++ all_drives library cs

-- the names that are driven in a model
abbrev pub driven_names : LibraryValue → ModelValue → List (List ℕ)
driven_names library m = inputs_of m ++ all_drives library m.commands

-- F5: the first name of a line that is driven already, by an input, an earlier line, or earlier in the line
abbrev pub twice_in : List ℕ → ℕ → List (List ℕ) → List (List ℕ) → Option FlatErr
twice_in model line driven [] = None
twice_in model line driven (name ∷ names) = if has_name driven name then Some (DoublyDriven model line name) else twice_in model line (driven ++ name ∷ []) names

abbrev pub twice_fault : LibraryValue → List ℕ → List (List ℕ) → List Command → Option FlatErr
twice_fault library model driven [] = None
twice_fault library model driven (c ∷ cs) = or_later (twice_in model c.line driven (drives library c.body)) (twice_fault library model (driven ++ drives library c.body) cs)

-- F6: the first name that a line reads and that isn't driven
abbrev pub undriven_in : List ℕ → ℕ → List (List ℕ) → List (List ℕ) → Option FlatErr
undriven_in model line driven [] = None
undriven_in model line driven (name ∷ names) = if has_name driven name then undriven_in model line driven names else Some (Undriven model line name)

abbrev pub undriven_fault : LibraryValue → List ℕ → List (List ℕ) → List Command → Option FlatErr
undriven_fault library model driven [] = None
undriven_fault library model driven (c ∷ cs) = or_later (undriven_in model c.line driven (reads library c.body)) (undriven_fault library model driven cs)

-- of a model: F5 of its commands in line order, then F6 of them, then F6 of its outputs, told with the line of `.model`
abbrev pub model_fault : LibraryValue → ModelValue → Option FlatErr
model_fault library m = or_later (twice_fault library m.name (inputs_of m) m.commands)
    (or_later (undriven_fault library m.name (driven_names library m) m.commands) (undriven_in m.name m.line (driven_names library m) m.outputs))

-- of the walked models, in the order of the walk
abbrev pub models_fault : LibraryValue → List ModelValue → Option FlatErr
models_fault library [] = None
models_fault library (m ∷ ms) = or_later (model_fault library m) (models_fault library ms)
