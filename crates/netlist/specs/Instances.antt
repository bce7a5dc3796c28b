-- The covers, latches and connections of the instances, and the main model's inputs.
use Rattle.std.specs.Prelude.{◌≡◌, ℕ, List, [], Some, slice_get, IsTrue}
use Rattle.list_laws.specs.Members.{In}
use Rattle.netlist.specs.Models.{Path, body_at, subckts_of, model_named, model_at, is_input}
use Rattle.netlist.specs.Words.{Cover, Latch, LatchValue, Connection, CoverValue, SubcktValue, ModelValue, LibraryValue}

-- an instance has this cover as its command i
pub record CoverAt (library : LibraryValue) (path : Path) (i : ℕ) (cover : CoverValue) : Type 0 where
  pub model : ModelValue
  pub at : model_at library path ≡ Some model
  pub is : body_at model i ≡ Some (Cover cover)

-- or this latch
pub record LatchAt (library : LibraryValue) (path : Path) (i : ℕ) (latch : LatchValue) : Type 0 where
  pub model : ModelValue
  pub at : model_at library path ≡ Some model
  pub is : body_at model i ≡ Some (Latch latch)

-- a connection of the subcircuit of ordinal k of an instance, which places the child
pub record ConnectionAt (library : LibraryValue) (path : Path) (k : ℕ) (pair : Connection) : Type 0 where
  pub model : ModelValue
  pub subckt : SubcktValue
  pub child : ModelValue
  pub at : model_at library path ≡ Some model
  pub is : slice_get (subckts_of model.commands) k ≡ Some subckt
  pub member : In subckt.pairs pair
  pub places : model_named library.models subckt.model ≡ Some child

-- an input of the main model
pub record IsMainInput (library : LibraryValue) (name : List ℕ) : Type 0 where
  pub model : ModelValue
  pub at : model_at library [] ≡ Some model
  pub is : IsTrue (is_input model name)
