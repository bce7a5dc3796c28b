-- Nodes that are linked: paths that share no node run to them from different regular sources.
--
-- What is said of them is what such paths show of cuts: a set that blocks some of them has at least as many leaves, since each path has one.
use Rattle.std.specs.Prelude.{◌≡◌, ℕ, ◌<◌, ◌≤◌, ◌⊎◌, List, length, slice_index}
use Rattle.flow_label.specs.Words.{Aig, Blocks, In, AreApart, node_count}

-- a set that blocks some of these nodes has at least as many leaves
pub record AreIndependent (g : Aig) (linked : ℕ → Type 0) : Type 0 where
  pub few : (ms d : List ℕ) → AreApart ms → ((m : ℕ) → In ms m → linked m) → ((m : ℕ) → In ms m → Blocks g d m) → length ms ≤ length d

-- a node that is linked at a floor: one at or below it that stays linked up to it
abbrev pub IsLinkedAt : List ℕ → ℕ → ℕ → Type 0
IsLinkedAt until floor m = (m ≤ floor) × (floor ≤ slice_index until m)

-- The floors at which nodes are linked, all below n, and for each node up to which floor it stays linked. The top is the last floor, and the last
-- source where there is none.
pub record AreTrunks (g : Aig) (n : ℕ) (floors until : List ℕ) (top : ℕ) : Type 0 where
  pub size : length until ≡ node_count g
  pub sources : length g.kinds ≤ top
  pub last : (top ≡ length g.kinds) ⊎ In floors top
  pub inside : (b : ℕ) → In floors b → (length g.kinds < b) × (b ≤ top) × (b < n)
  pub linked : (b : ℕ) → In floors b → AreIndependent g (IsLinkedAt until b)
  pub most : (m : ℕ) → slice_index until m ≤ top

-- A floor above which paths to n are sought: the last source, or one at which nodes are linked.
pub record IsGround (g : Aig) (n floor : ℕ) (until : List ℕ) : Type 0 where
  pub sources : length g.kinds ≤ floor
  pub under : floor < n
  pub linked : (floor ≡ length g.kinds) ⊎ AreIndependent g (IsLinkedAt until floor)

-- nodes that can be linked next: those above the top or linked there, such that a set that blocks some of them has as many leaves
pub record AreNext (g : Aig) (top : ℕ) (until nodes : List ℕ) : Type 0 where
  pub inside : (m : ℕ) → In nodes m → m < node_count g
  pub reached : (m : ℕ) → In nodes m → (top < m) ⊎ (top ≤ slice_index until m) ⊎ (top ≡ length g.kinds)
  pub independent : AreIndependent g (λ m. In nodes m)

-- these nodes stay linked up to a floor, and the others as they were
pub record IsStretched (old new nodes : List ℕ) (floor : ℕ) : Type 0 where
  pub size : length new ≡ length old
  pub each : (m : ℕ) → (slice_index new m ≡ slice_index old m) ⊎ (In nodes m × (slice_index new m ≡ floor))
  pub all : (m : ℕ) → In nodes m → slice_index new m ≡ floor
