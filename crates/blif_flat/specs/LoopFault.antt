-- F10: a cover whose value depends on itself through covers. The covers are walked depth first and left to right from the outputs, the latch inputs, and then all covers

-- in flat order; the first cover that is met again on the current path closes the loop, which is told from it on.
use Rattle.std.specs.Prelude.{◌≡◌, ℕ, if◌then◌else◌, List, [], ◌∷◌, ◌++◌, Some}
use Rattle.blif_flat.specs.Circuits.{cover_net, Place, same_place, LibraryValue, FlatErr, Repeat, Loop}
use Rattle.blif_flat.specs.Written.{IsWritten}
use Rattle.netlist.specs.CoverWalk.{LoopWalk}

-- the loop in the order in which each one reads the next: the path from the node's place on
abbrev pub from_node : Place → List Place → List Place
from_node p [] = []
from_node p (q ∷ path) = if same_place p q then q ∷ [] else from_node p path ++ q ∷ []

pub data AreWritten (library : LibraryValue) : List Place → List (List ℕ) → Type 0 where
  none : AreWritten library [] []
  more : (p : Place) (places : List Place) (text : List ℕ) (texts : List (List ℕ)) → IsWritten library (cover_net p.path p.command) text → AreWritten library places texts
      → AreWritten library (p ∷ places) (text ∷ texts)

pub record IsLoop (library : LibraryValue) (fault : FlatErr) : Type 0 where
  pub repeat : Repeat Place
  pub walk : LoopWalk library (Some repeat)
  pub names : List (List ℕ)
  pub written : AreWritten library (from_node repeat.node repeat.path) names
  pub is : fault ≡ Loop names
