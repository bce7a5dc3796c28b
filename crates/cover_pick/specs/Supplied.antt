-- What a plan's supply of cuts must be, and plans as the walk finds them in rows of cuts.
use Rattle.std.specs.Prelude.{◌≡◌, ℕ, Bool, List, Option}
use Rattle.cover_pick.specs.Words.{Aig, AreLeastHeights, AreServing, AreSets, Rule, FewestLeaves}
use Rattle.cover_pick.specs.Rounds.{Supply, Rows, Sets, IsPlan}
use Rattle.cover_pick.specs.Served.{IsServing}
use Rattle.cover_pick.specs.Planned.{cut_at, and_depths, depths_of, IsPlanned}

-- the labels are the least heights, and for all counts and favoured nodes there is one set for each node, and the sets serve
pub record HaveOneMaking (g : Aig) (k : ℕ) (label : ℕ → ℕ) (lows : ℕ → List ℕ) : Type 0 where
  pub heights : AreLeastHeights g k label
  pub once : (counts : ℕ → ℕ) (favoured : ℕ → Bool) (rows more : List (List (List ℕ))) → AreSets g k label lows counts favoured rows → AreSets g k label lows counts favoured more → rows ≡ more
  pub serves : (counts : ℕ → ℕ) (favoured : ℕ → Bool) (rows : List (List (List ℕ))) → AreSets g k label lows counts favoured rows → AreServing g k label rows

-- there is one plan from a supply
abbrev pub IsSupplied : Supply → Aig → (ℕ → ℕ) → Type 0
IsSupplied (Rows rows) g label = IsServing FewestLeaves g label rows
IsSupplied (Sets k lows) g label = HaveOneMaking g k label lows

-- these cuts are those that the walk finds in some rows by some flows, and the plan
pub record HasPlan (supply : Supply) (g : Aig) (label : ℕ → ℕ) (roots : List ℕ) (cuts : List (Option (List ℕ))) : Type 0 where
  pub rule : Rule
  pub rows : List (List (List ℕ))
  pub serving : IsServing rule g label rows
  pub flows : List ℕ
  pub plan : IsPlanned rule g rows label roots flows (cut_at cuts)
  pub chosen : IsPlan supply g label roots (and_depths g (depths_of rule g rows label roots flows)) (cut_at cuts)
