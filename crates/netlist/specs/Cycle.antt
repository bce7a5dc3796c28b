-- The cycle relation: the values of all nets, at every instance, that fit the values of the inputs and the latches (BLIF manual of 1992).
-- Nothing is flattened, and nothing is evaluated in an order.
use Rattle.std.specs.Prelude.{◌≡◌, ℕ, Bool, false, List, [], ◌∷◌, map}
use Rattle.netlist.specs.Circuits.{CoverAt, LatchAt, ConnectionAt, IsMainInput, Path, IsClock, LatchValue, Connection, CoverValue, cover_value, LibraryValue}

-- a value for each name of each instance fits the values x of the main inputs and s of the latches, by their places
pub record Fits (library : LibraryValue) (x : List ℕ → Bool) (s : Path → ℕ → Bool) (value : Path → List ℕ → Bool) : Type 0 where
  -- each main input has its value, and each clock net is 0
  pub inputs : (name : List ℕ) → IsMainInput library name → ¬ (IsClock library name) → value [] name ≡ x name
  pub clocks : (name : List ℕ) → IsMainInput library name → IsClock library name → value [] name ≡ false
  -- at every instance each cover's output has the cover's value over its inputs, and each latch's output its state
  pub covers : (path : Path) (i : ℕ) (c : CoverValue) → CoverAt library path i c → value path c.output ≡ cover_value c (map (value path) c.inputs)
  pub latches : (path : Path) (i : ℕ) (l : LatchValue) → LatchAt library path i l → value path l.output ≡ s path i
  -- each connected formal and its actual have the same value
  pub connections : (path : Path) (k : ℕ) (pair : Connection) → ConnectionAt library path k pair → value path pair.actual ≡ value (k ∷ path) pair.formal
