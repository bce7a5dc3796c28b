-- What drives and what reads a name within one instance.
use Rattle.std.specs.Prelude.{◌≡◌, ◌⊎◌, ℕ, List, ◌∷◌, Some, slice_get, IsTrue}
use Rattle.list_laws.specs.Members.{In}
use Rattle.netlist.specs.Instances.{CoverAt, LatchAt, ConnectionAt}
use Rattle.netlist.specs.Models.{Path, subckts_of, model_named, placed, model_at, is_input, is_output}
use Rattle.netlist.specs.Words.{LatchValue, Connection, CoverValue, SubcktValue, ModelValue, LibraryValue}

-- a driver within a model: an input of the model, a latch or a cover by its place, or an output of the subcircuit of an ordinal
pub data Driver : Type 0 where
  by_input : Driver
  by_latch : ℕ → Driver
  by_cover : ℕ → Driver
  by_subckt : ℕ → List ℕ → Driver

pub record InstanceAt (library : LibraryValue) (path : Path) : Type 0 where
  pub model : ModelValue
  pub at : model_at library path ≡ Some model

-- a name is driven by being an input, by a latch's or a cover's output, or as the actual of an output connection
pub data IsDriver (library : LibraryValue) (path : Path) (name : List ℕ) (driver : Driver) : Type 0 where
  input : (at : InstanceAt library path) → IsTrue (is_input at.model name) → driver ≡ by_input → IsDriver library path name driver
  latch : (i : ℕ) (l : LatchValue) → LatchAt library path i l → name ≡ l.output → driver ≡ by_latch i → IsDriver library path name driver
  cover : (i : ℕ) (c : CoverValue) → CoverAt library path i c → name ≡ c.output → driver ≡ by_cover i → IsDriver library path name driver
  output : (k : ℕ) (pair : Connection) (at : ConnectionAt library path k pair) → IsTrue (is_output at.child pair.formal) → name ≡ pair.actual → driver ≡ by_subckt k pair.formal → IsDriver library path name driver

-- a name is read as a cover's input, a latch's input or control, the actual of an input connection, or a model's output that isn't an input
pub data IsRead (library : LibraryValue) (path : Path) (name : List ℕ) : Type 0 where
  cover_input : (i : ℕ) (c : CoverValue) → CoverAt library path i c → In c.inputs name → IsRead library path name
  latch_input : (i : ℕ) (l : LatchValue) → LatchAt library path i l → name ≡ l.input → IsRead library path name
  latch_control : (i : ℕ) (l : LatchValue) → LatchAt library path i l → l.control ≡ Some name → IsRead library path name
  input_actual : (k : ℕ) (pair : Connection) (at : ConnectionAt library path k pair) → IsTrue (is_input at.child pair.formal) → name ≡ pair.actual → IsRead library path name
  model_output : (m : ModelValue) → model_at library path ≡ Some m → IsTrue (is_output m name) → IsRead library path name

-- the hierarchy below a model ends
pub data Ends (library : LibraryValue) : ModelValue → Type 0 where
  ends : {m : ModelValue} → ((k : ℕ) (child : ModelValue) → placed library k m ≡ Some child → Ends library child) → Ends library m

-- At every instance: each placed model is there and the hierarchy ends (no F1 and F2), each formal is an input or an output, and each input is connected (no F3 and F4),
-- each name has one driver at most (no F5), and each that is read has one (no F6).
pub record IsDriven (library : LibraryValue) : Type 0 where
  pub known : (path : Path) (m : ModelValue) (k : ℕ) (s : SubcktValue) → model_at library path ≡ Some m → slice_get (subckts_of m.commands) k ≡ Some s
      → (child : ModelValue) × (model_named library.models s.model ≡ Some child)
  pub finite : (path : Path) (m : ModelValue) → model_at library path ≡ Some m → Ends library m
  pub formals : (path : Path) (k : ℕ) (pair : Connection) (at : ConnectionAt library path k pair) → IsTrue (is_input at.child pair.formal) ⊎ IsTrue (is_output at.child pair.formal)
  pub apart : (path : Path) (k : ℕ) (pair other : Connection) → ConnectionAt library path k pair → ConnectionAt library path k other → pair.formal ≡ other.formal → pair ≡ other
  pub connected : (path : Path) (k : ℕ) (m : ModelValue) (name : List ℕ) → model_at library (k ∷ path) ≡ Some m → IsTrue (is_input m name) → (pair : Connection) × (ConnectionAt library path k pair) × (pair.formal ≡ name)
  pub once : (path : Path) (name : List ℕ) (driver other : Driver) → IsDriver library path name driver → IsDriver library path name other → driver ≡ other
  pub driven : (path : Path) (name : List ℕ) → IsRead library path name → (driver : Driver) × IsDriver library path name driver
