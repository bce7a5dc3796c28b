-- The places of the inputs that aren't parameters.
use Rattle.std.specs.Prelude.{◌≡◌, ℕ, ◌+◌, ◌<◌, Bool, true, false, List, [], ◌∷◌, length, map}
use Rattle.list_laws.specs.Members.{In}
use Rattle.list_laws.specs.Order.{IsAscending}
use Rattle.netlist.specs.FlatValue.{FlatValue}
use Rattle.netlist.specs.Models.{has_name}
use Rattle.param_list.specs.declared.params.Param.{Param}

-- no parameter stands at a place among the inputs
abbrev pub IsFree : List Param → ℕ → Type 0
IsFree params i = (p : Param) → In params p → p.input ≡ i → ⊥

-- exactly the places of the inputs at which no parameter stands, ascending
pub record AreRegularPlaces (flat : FlatValue) (params : List Param) (places : List ℕ) : Type 0 where
  pub ascending : IsAscending places
  pub within : (i : ℕ) → In places i → i < length flat.inputs
  pub free : (i : ℕ) → In places i → IsFree params i
  pub all : (i : ℕ) → i < length flat.inputs → IsFree params i → In places i

-- What the code makes: marks at the inputs, and the places of those that have none.

-- for each input, is its name among these
abbrev pub marks_of : List (List ℕ) → List (List ℕ) → List Bool
marks_of inputs names = map (has_name names) inputs

-- the places of the marks that are off, counted from a number on
abbrev pub off_places : ℕ → List Bool → List ℕ
off_places at [] = []
off_places at (true ∷ marks) = off_places (at + 1) marks
off_places at (false ∷ marks) = at ∷ off_places (at + 1) marks
