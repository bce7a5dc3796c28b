-- The lists that the code makes on its way to the minimal cuts.
use Rattle.std.specs.Prelude.{◌≡◌, ◌<◌, ◌≤◌, ℕ, zero, suc, ◌+◌, ◌-◌, ◌/◌, Bool, true, false, if◌then◌else◌, ◌==◌, nat_lt, List, [], ◌∷◌, ◌++◌, length, Option, Some, None, slice_get, slice_index_or}
use Rattle.std.specs.List.{list_any}
use Rattle.cut_enum.specs.Words.{Aig, first_and, IsAnd, AreMinimal, In, Within, IsAscending, before, row_at}
use Rattle.aig_core.specs.declared.lit.Kind.{Kind}
use Rattle.aig_core.specs.declared.lit.Kind.TheVariants.{Regular, Parameter}
use Rattle.aig_core.specs.declared.lit.Pair.{Pair}
use Rattle.cut_enum.specs.declared.limits.TheConstants.{MOST_OF_A_NODE}
use Rattle.cut_enum.specs.declared.table.CutErr.{CutErr}
use Rattle.cut_enum.specs.declared.table.CutErr.TheVariants.{NodeCuts}
use Rattle.cut_sets.specs.Unions.{union, subset}

-- a list in order, with one more at its place, unless it stands there
abbrev pub place : List ℕ → List (List ℕ) → List (List ℕ)
place c [] = c ∷ []
place c (d ∷ ds) = if before c d then c ∷ d ∷ ds else if before d c then d ∷ place c ds else d ∷ ds

-- sets of one size in order, with one more of that size: it stays away where one of the smaller sets is within it
abbrev pub add : List (List ℕ) → List ℕ → List (List ℕ) → List (List ℕ)
add base c level = if list_any (λ d. subset d c) base then level else place c level

-- with d, if it has size elements and one of some others is within it
abbrev pub add_holder : ℕ → List (List ℕ) → List (List ℕ) → List ℕ → List (List ℕ) → List (List ℕ)
add_holder size base parts d level = if length d == size then if list_any (λ c. subset c d) parts then add base d level else level else level

-- with each of some sets that has size elements and one of some others within it
abbrev pub add_holders : ℕ → List (List ℕ) → List (List ℕ) → List (List ℕ) → List (List ℕ) → List (List ℕ)
add_holders size base parts [] level = level
add_holders size base parts (d ∷ ds) level = add_holders size base parts ds (add_holder size base parts d level)

-- with the union of c and d, if it has size elements
abbrev pub add_union : ℕ → List (List ℕ) → List ℕ → List ℕ → List (List ℕ) → List (List ℕ)
add_union size base c d level = if length (union d c) == size then add base (union d c) level else level

-- with the unions of size elements of c and each of the others
abbrev pub add_unions : ℕ → List (List ℕ) → List ℕ → List (List ℕ) → List (List ℕ) → List (List ℕ)
add_unions size base c [] level = level
add_unions size base c (d ∷ ds) level = add_unions size base c ds (add_union size base c d level)

-- with the unions of size elements of a set of each list
abbrev pub add_pairs : ℕ → List (List ℕ) → List (List ℕ) → List (List ℕ) → List (List ℕ) → List (List ℕ)
add_pairs size base [] ds level = level
add_pairs size base (c ∷ cs) ds level = add_pairs size base cs ds (add_unions size base c ds level)

-- ascending sets of which none is within another
pub record AreApart (cs : List (List ℕ)) : Type 0 where
  pub ascending : (c : List ℕ) → In cs c → IsAscending c
  pub apart : (c d : List ℕ) → In cs c → In cs d → Within c d → c ≡ d

-- none of the smaller sets is within one of these that has size elements
abbrev pub AreClear : ℕ → List (List ℕ) → List (List ℕ) → Type 0
AreClear size base cs = (d : List ℕ) → In cs d → length d ≡ size → list_any (λ c. subset c d) base ≡ false

-- the sets at the head of a list that have fewer than size elements
abbrev pub leading : ℕ → List (List ℕ) → List (List ℕ)
leading size [] = []
leading size (c ∷ cs) = if nat_lt (length c) size then c ∷ leading size cs else []

-- the sets of size elements of the one list, and then of the other, that have one of the other list within them
abbrev pub holders : ℕ → List (List ℕ) → List (List ℕ) → List (List ℕ) → List (List ℕ)
holders size base xs ys = add_holders size base (leading size xs) ys (add_holders size base (leading (size + 1) ys) xs [])

-- the unions of size elements of a set of each list, in which none of the smaller sets is: either one of both has size elements
-- and the other is within it, or both have fewer
abbrev pub unions_at : ℕ → List (List ℕ) → List (List ℕ) → List (List ℕ) → List (List ℕ)
unions_at size base xs ys = add_pairs size base (leading size xs) (leading size ys) (holders size base xs ys)

-- the least unions of fewer than n elements of a set of each list: first those of no element, then those of one, and so on
abbrev pub unions_below : ℕ → List (List ℕ) → List (List ℕ) → List (List ℕ)
unions_below zero xs ys = []
unions_below (suc n) xs ys = unions_below n xs ys ++ unions_at n (unions_below n xs ys) xs ys

-- the least unions of at most k elements
abbrev pub merged : ℕ → List (List ℕ) → List (List ℕ) → List (List ℕ)
merged k cs ds = unions_below (suc k) cs ds

-- the sets that a source hands on: itself, or none where it costs nothing
abbrev pub source_front : ℕ → Option Kind → List (List ℕ)
source_front m (Some Regular) = (m ∷ []) ∷ []
source_front m (Some Parameter) = [] ∷ []
source_front m None = [] ∷ []

-- is the first set empty
abbrev pub starts_empty : List (List ℕ) → Bool
starts_empty [] = false
starts_empty ([] ∷ cs) = true
starts_empty ((l ∷ ls) ∷ cs) = false

-- the cut of a node alone and the node's own cuts, or these alone where the empty set is one of them
abbrev pub with_own : ℕ → List (List ℕ) → List (List ℕ)
with_own m row = if starts_empty row then row else (m ∷ []) ∷ row

-- the sets from which the readers of a node make theirs, those of fewer elements first
abbrev pub front_of : Aig → ℕ → List (List ℕ) → List (List ℕ)
front_of g m row = if m == 0 then [] ∷ [] else if nat_lt m (first_and g) then source_front m (slice_get g.kinds (m - 1)) else with_own m row

-- the least unions of what the two nodes of a pair hand on
abbrev pub unions_of : Aig → ℕ → List (List (List ℕ)) → Pair → List (List ℕ)
unions_of g k rows p = merged k (front_of g (p.x.0 / 2) (row_at rows (p.x.0 / 2))) (front_of g (p.y.0 / 2) (row_at rows (p.y.0 / 2)))

-- the row of a node: an AND node's cuts, and none for a source
pub record IsRow (g : Aig) (k n : ℕ) (row : List (List ℕ)) : Type 0 where
  pub node : IsAnd g n → AreMinimal g k n row
  pub source : n < first_and g → row ≡ []

-- a node is refused, since these would be its cuts and are too many
pub record IsTooMany (node : ℕ) (cuts : List (List ℕ)) (e : CutErr) : Type 0 where
  pub is : e ≡ NodeCuts node
  pub over : MOST_OF_A_NODE < length cuts

-- a place in a list in order: those before it are before c, and the others are not
pub record IsPlaceOf (c : List ℕ) (cs : List (List ℕ)) (i : ℕ) : Type 0 where
  pub within : i ≤ length cs
  pub below : (k : ℕ) → k < i → before (slice_index_or cs k []) c ≡ true
  pub above : (k : ℕ) → i ≤ k → k < length cs → before (slice_index_or cs k []) c ≡ false

-- a range of places that has the place
pub record IsAround (c : List ℕ) (cs : List (List ℕ)) (low high : ℕ) : Type 0 where
  pub order : low ≤ high
  pub within : high ≤ length cs
  pub below : (k : ℕ) → k < low → before (slice_index_or cs k []) c ≡ true
  pub above : (k : ℕ) → high ≤ k → k < length cs → before (slice_index_or cs k []) c ≡ false
