-- Models by their names, and what they place: instances are named by the ordinals of their `.subckt` lines.
use Rattle.std.specs.Option.{option_map, option_and_then}
use Rattle.std.specs.Prelude.{ℕ, Bool, not, ◌&&◌, ◌||◌, if◌then◌else◌, List, [], ◌∷◌, ◌++◌, filter, Option, Some, None, slice_get, bytes_eq, map}
pub use Rattle.tl_text.specs.NameSets.{has_name}
use Rattle.netlist.specs.Words.{Body, Cover, Latch, Subckt, Command, SubcktValue, ModelValue, LibraryValue}

-- An instance: the ordinals of the `.subckt` lines that lead to it from the main model, each counted from 0 in its model, the innermost first.
abbrev pub Path : Type 0
Path = List ℕ

-- the body of a model's command, by its place among the commands
abbrev pub body_at : ModelValue → ℕ → Option Body
body_at m i = option_map (λ (c : Command). c.body) (slice_get m.commands i)

-- the subcircuits of a model, in line order
abbrev pub with_subckt : Body → List SubcktValue → List SubcktValue
with_subckt (Cover c) subckts = subckts
with_subckt (Latch l) subckts = subckts
with_subckt (Subckt s) subckts = s ∷ subckts

abbrev pub subckts_of : List Command → List SubcktValue
subckts_of [] = []
subckts_of (c ∷ cs) = with_subckt c.body (subckts_of cs)

-- the model of a name
abbrev pub model_named : List ModelValue → List ℕ → Option ModelValue
model_named [] name = None
model_named (m ∷ ms) name = if bytes_eq name m.name then Some m else model_named ms name

-- the model that a model's subcircuit of this ordinal places
abbrev pub placed : LibraryValue → ℕ → ModelValue → Option ModelValue
placed library k m = option_and_then (λ (s : SubcktValue). model_named library.models s.model) (slice_get (subckts_of m.commands) k)

-- the model of an instance; the main model is the first one
abbrev pub model_at : LibraryValue → Path → Option ModelValue
model_at library [] = slice_get library.models 0
model_at library (k ∷ outer) = option_and_then (placed library k) (model_at library outer)

-- the inputs of a model: the names of its `.inputs`, then those of its `.clock` that aren't among them
abbrev pub is_input : ModelValue → List ℕ → Bool
is_input m name = has_name m.inputs name || has_name m.clocks name

abbrev pub inputs_of : ModelValue → List (List ℕ)
inputs_of m = m.inputs ++ filter (λ name. not (has_name m.inputs name)) m.clocks

-- an output that is no input
abbrev pub is_output : ModelValue → List ℕ → Bool
is_output m name = not (is_input m name) && has_name m.outputs name

-- the names of models
abbrev pub model_names : List ModelValue → List (List ℕ)
model_names models = map (λ (m : ModelValue). m.name) models
