-- Which AND nodes are needed, by which depth, and by which cut.
use Rattle.std.specs.Prelude.{◌≡◌, ℕ, ◌-◌, ◌/◌, ◌≤◌, List, Option, Some, None, ◌⊎◌}
use Rattle.cover_pick.specs.Words.{Aig, IsAnd, In, row_at, Rule, FewestLeaves, LeastCost}
use Rattle.cover_pick.specs.Target.{target}
use Rattle.cover_pick.specs.Choice.{IsChosen}
use Rattle.cover_pick.specs.Sharing.{IsNeededAbove, IsCheapest}

-- a required depth that is there, and at most d
pub record AtMost (o : Option ℕ) (d : ℕ) : Type 0 where
  pub by : ℕ
  pub is : o ≡ Some by
  pub le : by ≤ d

-- a required depth comes from a root, which has the target
pub record FromRoot (roots : List ℕ) (t n r : ℕ) : Type 0 where
  pub root : ℕ
  pub is_root : In roots root
  pub node : root / 2 ≡ n
  pub is : r ≡ t

-- or from a needed node that has it as a leaf of its chosen cut, which has one more
pub record FromReader (cover : ℕ → Option (List ℕ)) (reqs : ℕ → Option ℕ) (n r : ℕ) : Type 0 where
  pub reader : ℕ
  pub depth : ℕ
  pub cut : List ℕ
  pub needed : reqs reader ≡ Some depth
  pub chosen : cover reader ≡ Some cut
  pub leaf : In cut n
  pub is : r ≡ depth - 1

-- The required depths of AND nodes: a node has one exactly where it is a root's or a leaf of a needed node's chosen cut, and it is the least of the target, at a root, and one less than the required depth of each such reader. The node's label is no greater.
pub record IsSchedule (g : Aig) (label : ℕ → ℕ) (roots : List ℕ) (t : ℕ) (cover : ℕ → Option (List ℕ)) (reqs : ℕ → Option ℕ) : Type 0 where
  pub nodes : (n r : ℕ) → reqs n ≡ Some r → IsAnd g n
  pub low : (n r : ℕ) → reqs n ≡ Some r → label n ≤ r
  pub root : (l : ℕ) → In roots l → IsAnd g (l / 2) → AtMost (reqs (l / 2)) t
  pub leaf : (n r m : ℕ) (c : List ℕ) → reqs n ≡ Some r → cover n ≡ Some c → In c m → IsAnd g m → AtMost (reqs m) (r - 1)
  pub whence : (n r : ℕ) → reqs n ≡ Some r → FromRoot roots t n r ⊎ FromReader cover reqs n r

-- the cut that a rule chooses among those of a row for a required depth, where nodes have flows and some are needed already
abbrev pub IsRuled : Rule → (ℕ → ℕ) → (ℕ → Type 0) → (ℕ → ℕ) → ℕ → List (List ℕ) → List ℕ → Type 0
IsRuled FewestLeaves flow needed label r row c = IsChosen label r row c
IsRuled LeastCost flow needed label r row c = IsCheapest flow needed label r row c

pub record HasRuled (rule : Rule) (flow : ℕ → ℕ) (needed : ℕ → Type 0) (label : ℕ → ℕ) (r : ℕ) (row : List (List ℕ)) (o : Option (List ℕ)) : Type 0 where
  pub cut : List ℕ
  pub is : o ≡ Some cut
  pub best : IsRuled rule flow needed label r row cut

-- A plan by flows: the required depths and the chosen cuts of the needed AND nodes, for the target of the roots, where a rule takes each cut by these flows.
pub record IsPlanBy (rule : Rule) (g : Aig) (rows : List (List (List ℕ))) (label : ℕ → ℕ) (roots : List ℕ) (flow : ℕ → ℕ) (reqs : ℕ → Option ℕ) (cover : ℕ → Option (List ℕ)) : Type 0 where
  pub schedule : IsSchedule g label roots (target g label roots) cover reqs
  pub chosen : (n r : ℕ) → reqs n ≡ Some r → HasRuled rule flow (IsNeededAbove roots cover n) label r (row_at rows n) (cover n)
  pub none : (n : ℕ) → reqs n ≡ None → cover n ≡ None
