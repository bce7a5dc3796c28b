-- What sets are made from, and the sets of the first nodes.
use Rattle.std.specs.Prelude.{◌≡◌, ℕ, ◌*◌, ◌<◌, ◌≤◌, Bool, false, List, [], length, slice_index_or}
use Rattle.bounded_cuts.specs.Words.{Aig, AreNormal, first_and, IsAnd, In, IsCut, AreLeastHeights, height, label_at, row_at}
use Rattle.cut_sets.specs.declared.limits.TheConstants.{MOST_CUTS, MOST_LEAVES}
use Rattle.bounded_cuts.specs.declared.making.Wanted.{Wanted}
use Rattle.bounded_cuts.specs.declared.price.Candidate.{Candidate}
use Rattle.bounded_cuts.specs.declared.scope.Scope.TheVariants.{AnyHeight, LeastHeight}
use Rattle.bounded_cuts.specs.declared.worths.Worth.{Worth}
use Rattle.bounded_cuts.specs.Candidates.{AreCandidates}
use Rattle.bounded_cuts.specs.Flow.{flows_below}
use Rattle.bounded_cuts.specs.Sets.{AreSets, HasSet, places}
use Rattle.bounded_cuts.specs.Taking.{ArePlaced, ArePriced, cuts_at, cuts_of}
use Rattle.bounded_cuts.specs.Worths.{AreWorths, flows_of, low_flows_of, pricing}

abbrev pub low_in : List (List ℕ) → ℕ → List ℕ
low_in lows n = slice_index_or lows n []

abbrev pub count_in : List ℕ → ℕ → ℕ
count_in counts n = slice_index_or counts n 0

abbrev pub favoured_in : List Bool → ℕ → Bool
favoured_in favoured n = slice_index_or favoured n false

-- for each AND node a cut of its label's height
pub record AreLows (g : Aig) (k : ℕ) (label : ℕ → ℕ) (lows : List (List ℕ)) : Type 0 where
  pub cut : (n : ℕ) → IsAnd g n → IsCut g k n (low_in lows n)
  pub low : (n : ℕ) → IsAnd g n → height label (low_in lows n) ≡ label n

-- the sets that are wanted
abbrev pub AreSetsFor : Wanted → List (List (List ℕ)) → Type 0
AreSetsFor w rows = AreSets w.graph.now w.k (label_at w.labels.now) (low_in w.lows.now) (count_in w.counts.now) (favoured_in w.favoured.now) rows

-- what sets can be made from: the labels are the least heights, the low cuts have these heights, and a table has room for all sets
pub record CanMake (w : Wanted) : Type 0 where
  pub normal : AreNormal (first_and w.graph.now) w.graph.now.pairs
  pub few : w.k ≤ MOST_LEAVES
  pub labels : AreLeastHeights w.graph.now w.k (label_at w.labels.now)
  pub lows : AreLows w.graph.now w.k (label_at w.labels.now) w.lows.now
  pub most : places w.k * length w.graph.now.pairs ≤ MOST_CUTS

-- the sets of the first n nodes, and what these nodes count as leaves
pub record AreMade (w : Wanted) (n : ℕ) (rows : List (List (List ℕ))) (worths : List Worth) : Type 0 where
  pub count : length rows ≡ n
  pub sources : (m : ℕ) → m < first_and w.graph.now → row_at rows m ≡ []
  pub flows_are : flows_of worths ≡ flows_below w.graph.now AnyHeight (label_at w.labels.now) rows (count_in w.counts.now) n
  pub low_flows_are : low_flows_of worths ≡ flows_below w.graph.now LeastHeight (label_at w.labels.now) rows (count_in w.counts.now) n
  pub worths_are : AreWorths w.labels.now w.favoured.now n worths
  pub each : (m : ℕ) → IsAnd w.graph.now m → m < n → HasSet w.graph.now w.k (label_at w.labels.now) (low_in w.lows.now) (count_in w.counts.now) (favoured_in w.favoured.now) rows m

-- the set of a node, with the candidates and the places that it was taken from
pub record IsChosen (w : Wanted) (n : ℕ) (rows : List (List (List ℕ))) (worths : List Worth) (candidates : List Candidate) (taken : List ℕ) (set : List (List ℕ)) : Type 0 where
  pub are : AreCandidates w.graph.now w.k (label_at w.labels.now) (low_in w.lows.now n) rows n (cuts_of candidates)
  pub priced : ArePriced (pricing w.labels.now w.favoured.now worths) candidates
  pub inside : (j : ℕ) → In taken j → j < length candidates
  pub placed : ArePlaced (pricing w.labels.now w.favoured.now worths) w.k (label_at w.labels.now n) (cuts_of candidates) taken
  pub is : set ≡ cuts_at candidates taken
