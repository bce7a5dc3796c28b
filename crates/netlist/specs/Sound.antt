-- Sound libraries: well formed, and none of F1 to F10 holds.
use Rattle.std.specs.Prelude.{◌≡◌, ℕ, List, [], Some}
use Rattle.netlist.specs.WellFormed.{IsWellFormed}
use Rattle.netlist.specs.Circuits.{In, IsDriven, CoverAt, LatchAt, Path, model_at, input_net, Drives, IsClock, Place, LatchValue, CoverValue, ModelValue, LibraryValue}
use Rattle.netlist.specs.Loops.{Depends}

-- a name of an instance is an input of a cover or a latch
pub data IsData (library : LibraryValue) (path : Path) (name : List ℕ) : Type 0 where
  cover_data : (i : ℕ) (c : CoverValue) → CoverAt library path i c → In c.inputs name → IsData library path name
  latch_data : (i : ℕ) (l : LatchValue) → LatchAt library path i l → name ≡ l.input → IsData library path name

pub record IsSound (library : LibraryValue) : Type 0 where
  pub formed : IsWellFormed library
  pub main : ModelValue
  pub at : model_at library [] ≡ Some main
  pub driven : IsDriven library
  -- each latch control's net is an input of the main model (no F8), and all are one (no F7)
  pub control_input : (path : Path) (i : ℕ) (l : LatchValue) (control : List ℕ) → LatchAt library path i l → l.control ≡ Some control → (name : List ℕ) × Drives library path control (input_net name)
  pub one_control : (path other : Path) (i j : ℕ) (l r : LatchValue) (control second : List ℕ) (name last : List ℕ) → LatchAt library path i l → LatchAt library other j r → l.control ≡ Some control
      → r.control ≡ Some second → Drives library path control (input_net name) → Drives library other second (input_net last) → name ≡ last
  -- no clock net is the input of a cover or a latch, or a top output (no F9)
  pub no_clock_data : (path : Path) (name net : List ℕ) → IsData library path name → Drives library path name (input_net net) → ¬ (IsClock library net)
  pub no_clock_output : (name net : List ℕ) → In main.outputs name → Drives library [] name (input_net net) → ¬ (IsClock library net)
  -- no cover's value depends on itself through covers (no F10)
  pub no_loop : (p : Place) → ¬ (Depends library p p)
