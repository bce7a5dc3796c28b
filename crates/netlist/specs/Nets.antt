-- Nets: a connected formal and its actual are one net, and a net is named by what drives it.
use Rattle.std.specs.Prelude.{◌≡◌, ℕ, List, [], ◌∷◌, Some, IsTrue}
use Rattle.netlist.specs.Instances.{CoverAt, LatchAt, ConnectionAt, IsMainInput}
use Rattle.netlist.specs.Models.{Path, model_at, has_name, is_input, is_output}
use Rattle.netlist.specs.Words.{LatchValue, Connection, CoverValue, ModelValue, LibraryValue}

-- the driver of a net: an input of the main model, or a latch or cover of an instance by its place among the commands
pub data Net : Type 0 where
  input_net : List ℕ → Net
  latch_net : Path → ℕ → Net
  cover_net : Path → ℕ → Net

-- The net drives a name of an instance: the name is a main input, or an output of a latch or a cover; or it is the actual of an output connection,
-- whose formal the net drives inside; or it is the formal of an input connection, whose actual the net drives outside.
pub data Drives (library : LibraryValue) : Path → List ℕ → Net → Type 0 where
  main_input : {path : Path} {name : List ℕ} {net : Net} → path ≡ [] → IsMainInput library name → net ≡ input_net name → Drives library path name net
  latch_output : {path : Path} {name : List ℕ} {net : Net} (i : ℕ) (l : LatchValue) → LatchAt library path i l → name ≡ l.output → net ≡ latch_net path i → Drives library path name net
  cover_output : {path : Path} {name : List ℕ} {net : Net} (i : ℕ) (c : CoverValue) → CoverAt library path i c → name ≡ c.output → net ≡ cover_net path i → Drives library path name net
  from_inside : {path : Path} {name : List ℕ} {net : Net} (k : ℕ) (pair : Connection) (at : ConnectionAt library path k pair) → IsTrue (is_output at.child pair.formal) → name ≡ pair.actual
      → Drives library (k ∷ path) pair.formal net → Drives library path name net
  from_outside : {path : Path} {name : List ℕ} {net : Net} (k : ℕ) (outer : Path) (pair : Connection) (at : ConnectionAt library outer k pair) → IsTrue (is_input at.child pair.formal)
      → path ≡ k ∷ outer → name ≡ pair.formal → Drives library outer pair.actual net → Drives library path name net

-- a clock net: a name of the main model's `.clock`, or the main input that drives a latch's control
pub data IsClock (library : LibraryValue) (name : List ℕ) : Type 0 where
  listed : (m : ModelValue) → model_at library [] ≡ Some m → IsTrue (has_name m.clocks name) → IsClock library name
  controls : (path : Path) (i : ℕ) (l : LatchValue) (control : List ℕ) → LatchAt library path i l → l.control ≡ Some control → Drives library path control (input_net name) → IsClock library name
