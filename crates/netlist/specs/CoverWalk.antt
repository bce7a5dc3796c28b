-- The walk of the covers, depth first and left to right, from the outputs, the latch inputs, and then all covers in flat order; and an order in which each cover comes after those that it reads.
use Rattle.std.specs.Prelude.{◌≡◌, ℕ, ◌+◌, List, [], ◌∷◌, Some, ◌++◌, Option, None}
use Rattle.depth_first.specs.Order.{IsAfter}
use Rattle.netlist.specs.Circuits.{In, ModelValue, LibraryValue, Path, model_at, Place, is_cover, is_latch, LatchValue, CoverValue, FlatOrder, CoverAt, Net, latch_at}
use Rattle.netlist.specs.DepthFirst.{Repeat, MeetsAll}
use Rattle.netlist.specs.Loops.{reads_of, AreNets, covers_among}

-- the covers at the latches' inputs
abbrev pub latch_covers : (List ℕ → Option Net) → Option LatchValue → List Place
latch_covers net None = []
latch_covers net (Some l) = covers_among net (l.input ∷ [])

abbrev pub all_latch_covers : LibraryValue → (Path → List ℕ → Option Net) → List Place → List Place
all_latch_covers library net [] = []
all_latch_covers library net (p ∷ places) = latch_covers (net p.path) (latch_at library p) ++ all_latch_covers library net places

-- the roots: the outputs, then the latch inputs
abbrev pub roots_of : LibraryValue → (Path → List ℕ → Option Net) → ModelValue → List Place → List Place
roots_of library net main latches = covers_among (net []) main.outputs ++ all_latch_covers library net latches

-- what the walk finds
pub record LoopWalk (library : LibraryValue) (result : Option (Repeat Place)) : Type 0 where
  pub main : ModelValue
  pub at : model_at library [] ≡ Some main
  pub covers : List Place
  pub covers_are : FlatOrder library is_cover [] main covers
  pub latches : List Place
  pub latches_are : FlatOrder library is_latch [] main latches
  pub net : Path → List ℕ → Option Net
  pub nets : AreNets library net
  pub meets : MeetsAll (reads_of library net) [] (roots_of library net main latches ++ covers) result

-- Orders of the covers in which each one comes after those that it reads.

-- an order of all covers, in which each comes after those that it reads
pub record Ordered (library : LibraryValue) (net : Path → List ℕ → Option Net) : Type 0 where
  pub order : List Place
  pub after : IsAfter (reads_of library net) order
  pub all : (path : Path) (i : ℕ) (c : CoverValue) → CoverAt library path i c → In order (record { path = path; command = i })
  pub only : (p : Place) → In order p → (c : CoverValue) × CoverAt library p.path p.command c
