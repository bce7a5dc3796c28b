-- Nets as they are written: each ordinal of the instance followed by `/` (47), from the outside in, and then the name at the driver.
use Rattle.std.specs.Prelude.{◌≡◌, ℕ, List, [], ◌∷◌, ◌++◌, decimal}
use Rattle.blif_flat.specs.Circuits.{CoverAt, LatchAt, Path, Net, input_net, latch_net, cover_net, LatchValue, CoverValue, LibraryValue}

-- the path stands innermost first
abbrev pub path_text : Path → List ℕ
path_text [] = []
path_text (k ∷ outer) = path_text outer ++ (decimal k ++ 47 ∷ [])

pub data IsWritten (library : LibraryValue) (net : Net) (text : List ℕ) : Type 0 where
  of_input : (name : List ℕ) → net ≡ input_net name → text ≡ name → IsWritten library net text
  of_latch : (path : Path) (i : ℕ) (l : LatchValue) → net ≡ latch_net path i → LatchAt library path i l → text ≡ path_text path ++ l.output → IsWritten library net text
  of_cover : (path : Path) (i : ℕ) (c : CoverValue) → net ≡ cover_net path i → CoverAt library path i c → text ≡ path_text path ++ c.output → IsWritten library net text
