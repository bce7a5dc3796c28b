-- Orders in which each node is after its successors.
use Rattle.std.specs.Prelude.{List, [], ◌∷◌}
use Rattle.list_laws.specs.Members.{In}
use Rattle.depth_first.specs.DepthFirst.{Way, leads, stops}

-- an order, the last first: the successors of each node come after it in the list, and none occurs twice
abbrev pub IsAfter : {N : Type 0} → (N → List N) → List N → Type 0
IsAfter next [] = Unit {0}
IsAfter next (n ∷ ns) = ((m : _) → In (next n) m → In ns m) × ((In ns n → ⊥) × IsAfter next ns)

-- a way leads to one of these nodes, and is no stop
abbrev pub LeadsInto : {N S : Type 0} → List N → Way N S → Type 0
LeadsInto ns (leads n) = In ns n
LeadsInto ns (stops s) = ⊥

-- such an order in which no node has a stop: each way on from a node leads to one that comes after it in the list
abbrev pub IsSettled : {N S : Type 0} → (N → List (Way N S)) → List N → Type 0
IsSettled ways [] = Unit {0}
IsSettled {S = S} ways (n ∷ ns) = ((w : Way _ S) → In (ways n) w → LeadsInto ns w) × ((In ns n → ⊥) × IsSettled ways ns)
