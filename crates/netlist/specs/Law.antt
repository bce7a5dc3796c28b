-- The law of the cycle relation: for all values of inputs and latches a fitting map exists, and any two agree on every driven name.
use Rattle.std.specs.Prelude.{◌≡◌, ℕ, Bool, List}
use Rattle.netlist.specs.Circuits.{Path, Net, Drives, LibraryValue}
use Rattle.netlist.specs.Cycle.{Fits}

pub record HasFit (library : LibraryValue) (x : List ℕ → Bool) (s : Path → ℕ → Bool) : Type 0 where
  pub value : Path → List ℕ → Bool
  pub fits : Fits library x s value

pub record HasOneCycle (library : LibraryValue) : Type 0 where
  pub exists : (x : List ℕ → Bool) (s : Path → ℕ → Bool) → HasFit library x s
  pub agree : (x : List ℕ → Bool) (s : Path → ℕ → Bool) (value other : Path → List ℕ → Bool) → Fits library x s value → Fits library x s other
      → (path : Path) (name : List ℕ) (net : Net) → Drives library path name net → value path name ≡ other path name
