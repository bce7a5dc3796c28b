-- How readers are counted: one pair after another, and one chosen cut after another.
use Rattle.std.specs.Prelude.{◌≡◌, ℕ, ◌+◌, ◌-◌, ◌/◌, ◌<◌, List, [], ◌∷◌, length, sum_by, Option, Some, slice_index_or, slice_set, take}
use Rattle.cover_pick.specs.Words.{Aig, first_and, node_count, Pair, In, IsAscending, times_read}
use Rattle.cover_pick.specs.Uses.{uses_below}

abbrev pub count_at : List ℕ → ℕ → ℕ
count_at counts m = slice_index_or counts m 0

abbrev pub count_one : List ℕ → ℕ → List ℕ
count_one counts m = slice_set counts m (count_at counts m + 1)

abbrev pub count_pair : List ℕ → Pair → List ℕ
count_pair counts p = count_one (count_one counts (p.x.0 / 2)) (p.y.0 / 2)

-- the fan-outs among the AND nodes below n
pub record AreCounted (g : Aig) (n : ℕ) (counts : List ℕ) : Type 0 where
  pub size : length counts ≡ node_count g
  pub each : (m : ℕ) → m < node_count g → count_at counts m ≡ sum_by (times_read m) (take (n - first_and g) g.pairs)

-- a node counts for each of its leaves
abbrev pub count_each : List ℕ → List ℕ → List ℕ
count_each counts [] = counts
count_each counts (m ∷ ms) = count_each (count_one counts m) ms

-- the leaves of a cover are nodes, in ascending order in each cut, and few
pub record AreLeaves (g : Aig) (cover : ℕ → Option (List ℕ)) : Type 0 where
  pub inside : (n m : ℕ) (c : List ℕ) → cover n ≡ Some c → In c m → m < node_count g
  pub ascending : (n : ℕ) (c : List ℕ) → cover n ≡ Some c → IsAscending c

-- the uses of each node among the nodes below n
pub record AreUsed (g : Aig) (cover : ℕ → Option (List ℕ)) (n : ℕ) (counts : List ℕ) : Type 0 where
  pub size : length counts ≡ node_count g
  pub each : (m : ℕ) → m < node_count g → count_at counts m ≡ uses_below cover m n
