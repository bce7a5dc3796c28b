-- How the cone of a LUT is walked: the walk stops at sources, at leaves and at the nodes that are counted once, and those of the last that it comes to are met.
use Rattle.std.specs.Prelude.{◌≡◌, ℕ, ◌/◌, Bool, true, ◌||◌, if◌then◌else◌, ◌==◌, nat_lt, List, [], ◌∷◌, length, ◌++◌, slice_set, slice_index_or, ◌⊎◌, Option, Some, None}
use Rattle.std.specs.List.{list_any}
use Rattle.cover_pick.specs.Words.{Aig, first_and, node_count, IsNode, Pair, In, IsDescending}
use Rattle.cover_pick.specs.Work.{Path, AreOwn}
use Rattle.cover_pick.specs.Free.{mark_of}

-- does a node end the way down: a source or a leaf
abbrev pub is_stop : Aig → List ℕ → ℕ → Bool
is_stop g c n = nat_lt n (first_and g) || list_any (λ m. m == n) c

-- the stamps of all nodes, the nodes that are reached, in the order in which they were, and the marks of the nodes that are met
pub record SearchValue : Type 0 where
  pub stamps : List ℕ
  pub reached : List ℕ
  pub met : List Bool

abbrev pub stamp_at : List ℕ → ℕ → ℕ
stamp_at stamps n = slice_index_or stamps n 0

-- a node is reached: it is taken, unless it ends the way down or has this search's stamp; one that is counted once is met
abbrev pub reach : Aig → List Bool → List ℕ → ℕ → SearchValue → ℕ → SearchValue
reach g once c stamp s n =
    if is_stop g c n then s
    else if mark_of once n then record { stamps = s.stamps; reached = s.reached; met = slice_set s.met n true }
    else if stamp_at s.stamps n == stamp then s
    else record { stamps = slice_set s.stamps n stamp; reached = s.reached ++ n ∷ []; met = s.met }

-- the same of both fan-ins of a pair
abbrev pub reach_both : Aig → List Bool → List ℕ → ℕ → SearchValue → Pair → SearchValue
reach_both g once c stamp s p = reach g once c stamp (reach g once c stamp s (p.x.0 / 2)) (p.y.0 / 2)

-- the marked nodes
abbrev pub once_in : List Bool → ℕ → Type 0
once_in once n = mark_of once n ≡ true

-- marks: the fan-ins of a marked node are marked
pub record AreClosed (g : Aig) (once : List Bool) : Type 0 where
  pub each : (n : ℕ) (p : Pair) → once_in once n → IsNode g p n → once_in once (p.x.0 / 2) × once_in once (p.y.0 / 2)

-- an AND node is at or below one that is met
pub record IsBelowMet (g : Aig) (met : List Bool) (m : ℕ) : Type 0 where
  pub top : ℕ
  pub is_met : mark_of met top ≡ true
  pub path : Path g [] m top

-- what the walk of a cone adds to the nodes that are met
pub record MeetsCone (g : Aig) (once : List Bool) (c : List ℕ) (top : ℕ) (old new : List Bool) : Type 0 where
  pub size : length new ≡ node_count g
  pub only : (m : ℕ) → mark_of new m ≡ true → (mark_of old m ≡ true) ⊎ (once_in once m × Path g c m top)
  pub kept : (m : ℕ) → mark_of old m ≡ true → mark_of new m ≡ true
  pub all : (m : ℕ) → Path g c m top → once_in once m → IsBelowMet g new m

-- how many own nodes a node has above some leaves
pub record HasOwn (g : Aig) (once : List Bool) (c : List ℕ) (n size : ℕ) : Type 0 where
  pub nodes : List ℕ
  pub are : AreOwn g (once_in once) c n nodes
  pub is : size ≡ length nodes

-- an AND node's fan-ins are met
abbrev pub with_fan_ins : Option Pair → List Bool → List Bool
with_fan_ins None met = met
with_fan_ins (Some p) met = slice_set (slice_set met (p.x.0 / 2) true) (p.y.0 / 2) true

-- the AND nodes at or below those that are met, each once
pub record AreBelowMet (g : Aig) (met : List Bool) (nodes : List ℕ) : Type 0 where
  pub descending : IsDescending nodes
  pub only : (m : ℕ) → In nodes m → IsBelowMet g met m
  pub all : (m : ℕ) → IsBelowMet g met m → In nodes m

-- and how many there are
pub record HasBelowMet (g : Aig) (met : List Bool) (count : ℕ) : Type 0 where
  pub nodes : List ℕ
  pub are : AreBelowMet g met nodes
  pub is : count ≡ length nodes
