-- The walk of the models: depth first from the main model, in each model the `.subckt` lines in order, and each placed model unless it was walked before.
use Rattle.std.specs.Prelude.{◌≡◌, ℕ, Bool, true, false, ◌||◌, if◌then◌else◌, List, [], ◌∷◌, ◌++◌, Option, Some, None, bytes_eq}
use Rattle.std.specs.List.{list_any}
use Rattle.blif_flat.specs.Circuits.{model_named, has_name, is_input, inputs_of, Body, Cover, Latch, Subckt, Command, Connection, SubcktValue, ModelValue, LibraryValue, FlatErr, UnknownModel, RecursiveModel, UnknownFormal, Unconnected}

-- the `.subckt` lines of a model
pub record SubcktLine : Type 0 where
  pub line : ℕ
  pub subckt : SubcktValue

abbrev pub with_line : ℕ → Body → List SubcktLine → List SubcktLine
with_line line (Cover c) lines = lines
with_line line (Latch l) lines = lines
with_line line (Subckt s) lines = record { line = line; subckt = s } ∷ lines

abbrev pub subckt_lines : List Command → List SubcktLine
subckt_lines [] = []
subckt_lines (c ∷ cs) = with_line c.line c.body (subckt_lines cs)

-- the first formal that is neither an input nor an output
abbrev pub unknown_formal : ModelValue → List Connection → Option (List ℕ)
unknown_formal child [] = None
unknown_formal child (pair ∷ pairs) = if is_input child pair.formal || has_name child.outputs pair.formal then unknown_formal child pairs else Some pair.formal

-- the first input that isn't connected
abbrev pub is_connected : List Connection → List ℕ → Bool
is_connected pairs name = list_any (λ (pair : Connection). bytes_eq name pair.formal) pairs

abbrev pub open_input : List Connection → List (List ℕ) → Option (List ℕ)
open_input pairs [] = None
open_input pairs (name ∷ names) = if is_connected pairs name then open_input pairs names else Some name

-- the chain of models from a name's place in it on, the outermost first; the chain stands innermost first
abbrev pub chain_from : List ℕ → List (List ℕ) → List (List ℕ)
chain_from name [] = []
chain_from name (m ∷ chain) = if bytes_eq name m then m ∷ [] else chain_from name chain ++ m ∷ []

-- F3 and F4 of a line that places a child
abbrev pub input_fault : ModelValue → ℕ → Option (List ℕ) → Option FlatErr
input_fault m line (Some name) = Some (Unconnected m.name line name)
input_fault m line None = None

abbrev pub formal_fault : ModelValue → SubcktLine → ModelValue → Option (List ℕ) → Option FlatErr
formal_fault m l child (Some name) = Some (UnknownFormal m.name l.line name)
formal_fault m l child None = input_fault m l.line (open_input l.subckt.pairs (inputs_of child))

-- F1 to F4 of a line, in this order, where the models of the chain, the innermost first, are being walked
abbrev pub placed_fault : List (List ℕ) → ModelValue → SubcktLine → Option ModelValue → Option FlatErr
placed_fault chain m l None = Some (UnknownModel m.name l.line l.subckt.model)
placed_fault chain m l (Some child) =
    if has_name chain l.subckt.model then Some (RecursiveModel (chain_from l.subckt.model chain ++ l.subckt.model ∷ []))
    else formal_fault m l child (unknown_formal child l.subckt.pairs)

abbrev pub line_fault : LibraryValue → List (List ℕ) → ModelValue → SubcktLine → Option FlatErr
line_fault library chain m l = placed_fault chain m l (model_named library.models l.subckt.model)

-- a model was walked
abbrev pub is_walked : List ModelValue → List ℕ → Bool
is_walked walked name = list_any (λ (m : ModelValue). bytes_eq name m.name) walked

-- what a walk gives: its first refusal, or the walked models, in the order in which they were begun
pub data Walked : Type 0 where
  refused : FlatErr → Walked
  walked : List ModelValue → Walked

-- the walk of a model's lines after models that were begun before
pub data Walks (library : LibraryValue) : List (List ℕ) → ModelValue → List ModelValue → List SubcktLine → Walked → Type 0 where
  stop : {chain : List (List ℕ)} {m : ModelValue} {before : List ModelValue} {lines : List SubcktLine} {result : Walked} → lines ≡ [] → result ≡ walked before → Walks library chain m before lines result
  refuse : {chain : List (List ℕ)} {m : ModelValue} {before : List ModelValue} {lines : List SubcktLine} {result : Walked} (l : SubcktLine) (rest : List SubcktLine) (fault : FlatErr)
      → lines ≡ l ∷ rest → line_fault library chain m l ≡ Some fault → result ≡ refused fault → Walks library chain m before lines result
  again : {chain : List (List ℕ)} {m : ModelValue} {before : List ModelValue} {lines : List SubcktLine} {result : Walked} (l : SubcktLine) (rest : List SubcktLine)
      → lines ≡ l ∷ rest → line_fault library chain m l ≡ None → is_walked before l.subckt.model ≡ true → Walks library chain m before rest result → Walks library chain m before lines result
  inside : {chain : List (List ℕ)} {m : ModelValue} {before : List ModelValue} {lines : List SubcktLine} {result : Walked} (l : SubcktLine) (rest : List SubcktLine) (child : ModelValue) (fault : FlatErr)
      → lines ≡ l ∷ rest → line_fault library chain m l ≡ None → is_walked before l.subckt.model ≡ false → model_named library.models l.subckt.model ≡ Some child
      → Walks library (child.name ∷ chain) child (before ++ child ∷ []) (subckt_lines child.commands) (refused fault) → result ≡ refused fault → Walks library chain m before lines result
  onward : {chain : List (List ℕ)} {m : ModelValue} {before : List ModelValue} {lines : List SubcktLine} {result : Walked} (l : SubcktLine) (rest : List SubcktLine) (child : ModelValue) (after : List ModelValue)
      → lines ≡ l ∷ rest → line_fault library chain m l ≡ None → is_walked before l.subckt.model ≡ false → model_named library.models l.subckt.model ≡ Some child
      → Walks library (child.name ∷ chain) child (before ++ child ∷ []) (subckt_lines child.commands) (walked after) → Walks library chain m after rest result → Walks library chain m before lines result

-- the walk from the main model
pub record WalksMain (library : LibraryValue) (main : ModelValue) (result : Walked) : Type 0 where
  pub walks : Walks library (main.name ∷ []) main (main ∷ []) (subckt_lines main.commands) result
