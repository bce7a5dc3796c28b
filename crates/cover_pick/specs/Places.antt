-- The chosen cuts, each by its place among the cuts of its node.
use Rattle.std.specs.Prelude.{◌≡◌, ℕ, ◌+◌, ◌<◌, ◌≤◌, List, [], ◌∷◌, length, Option, Some, None, slice_index_or}
use Rattle.cover_pick.specs.Words.{Aig, Rule, label_at, node_count, row_at}
-- the place of a node's cut, none where it has no cut, stands in a list as a required depth does
pub use Rattle.cover_pick.specs.Required.{need as place_at}
use Rattle.cover_pick.specs.Required.{need}
use Rattle.cover_pick.specs.Ruled.{found_from}

-- the cut at a place of a row
abbrev pub cut_of : List (List ℕ) → Option ℕ → Option (List ℕ)
cut_of row None = None
cut_of row (Some i) = Some (slice_index_or row i [])

-- the cuts at the places of the nodes from n on
abbrev pub cuts_from : List (List (List ℕ)) → ℕ → List (Option ℕ) → List (Option (List ℕ))
cuts_from rows n [] = []
cuts_from rows n (p ∷ ps) = cut_of (row_at rows n) p ∷ cuts_from rows (n + 1) ps

abbrev pub cuts_of : List (List (List ℕ)) → List (Option ℕ) → List (Option (List ℕ))
cuts_of rows places = cuts_from rows 0 places

-- each place is one of its node's row
abbrev pub ArePlaces : List (List (List ℕ)) → List (Option ℕ) → Type 0
ArePlaces rows places = (n i : ℕ) → place_at places n ≡ Some i → i < length (row_at rows n)

-- the cut of a node that is found for its required depth, if it is needed
abbrev pub found_for : (ℕ → Option (List ℕ)) → Option ℕ → Option (List ℕ)
found_for found None = None
found_for found (Some r) = found r

-- the places of the nodes from `from` on are those of the cuts that are found for these depths, and the nodes below have none
pub record AreBestPlaces (g : Aig) (rows : List (List (List ℕ))) (found : ℕ → ℕ → Option (List ℕ)) (depths : List (Option ℕ)) (from : ℕ) (places : List (Option ℕ)) : Type 0 where
  pub count : length places ≡ node_count g
  pub inside : ArePlaces rows places
  pub below : (n : ℕ) → n < from → place_at places n ≡ None
  pub best : (n : ℕ) → from ≤ n → n < node_count g → cut_of (row_at rows n) (place_at places n) ≡ found_for (found n) (need depths n)

-- the same, where they are found from the required depths `start` on
abbrev pub ArePlacedFrom : Rule → Aig → List (List (List ℕ)) → List ℕ → List ℕ → List (Option ℕ) → List (Option ℕ) → ℕ → List (Option ℕ) → Type 0
ArePlacedFrom rule g rows labels flows start depths from places = AreBestPlaces g rows (found_from rule g rows (label_at labels) flows start) depths from places
