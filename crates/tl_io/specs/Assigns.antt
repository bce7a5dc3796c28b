-- New values of parameters.
use Rattle.std.specs.Prelude.{◌≡◌, ℕ, ◌<◌, Bool, List, [], ◌∷◌, Some, slice_get, slice_set}
use Rattle.list_laws.specs.Members.{In}
use Rattle.tl_io.specs.declared.Assign.{Assign}

-- parameters below this number, each once
pub record AreAssigned (count : ℕ) (assigns : List Assign) : Type 0 where
  pub below : (a : Assign) → In assigns a → a.param < count
  pub once : (i j : ℕ) (a b : Assign) → slice_get assigns i ≡ Some a → slice_get assigns j ≡ Some b → a.param ≡ b.param → i ≡ j

-- the parameters' values with these given
abbrev pub assigned : List Bool → List Assign → List Bool
assigned params [] = params
assigned params (assign ∷ assigns) = assigned (slice_set params assign.param assign.bit) assigns
