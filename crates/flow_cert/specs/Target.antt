-- The depth of some roots, and the node where their certificate begins.
use Rattle.std.specs.Prelude.{◌≡◌, ℕ, ◌/◌, ◌%◌, ◌<◌, ◌≤◌, List, ◌⊎◌}
use Rattle.flow_cert.specs.Words.{Aig, IsAnd, IsSource, In}
use Rattle.aig_core.specs.declared.lit.Kind.TheVariants.{Regular}
use Rattle.flow_cert.specs.Needed.{IsFirstToNeed}

-- r is the depth that a root needs
pub record IsLevel (g : Aig) (label : ℕ → ℕ) (l r : ℕ) : Type 0 where
  pub complemented : IsSource g Regular (l / 2) → l % 2 ≡ 1 → 1 ≤ r
  pub node : IsAnd g (l / 2) → label (l / 2) ≡ r
  pub needs : (r ≡ 0) ⊎ (IsAnd g (l / 2) ⊎ (IsSource g Regular (l / 2) × (l % 2 ≡ 1) × (r ≡ 1)))

-- the depth is 0, or some root needs it: the node of the first one begins, or this root is the complement of a source, and none begins (0)
pub data HasBegin (g : Aig) (label : ℕ → ℕ) (roots : List ℕ) (depth begin : ℕ) : Type 0 where
  nothing : depth ≡ 0 → begin ≡ 0 → HasBegin g label roots depth begin
  node : (l : ℕ) → IsFirstToNeed g label depth roots l → IsAnd g (l / 2) → begin ≡ l / 2 → depth ≡ label (l / 2) → 1 ≤ depth → HasBegin g label roots depth begin
  complemented : (l : ℕ) → IsFirstToNeed g label depth roots l → IsSource g Regular (l / 2) → l % 2 ≡ 1 → depth ≡ 1 → begin ≡ 0 → HasBegin g label roots depth begin

-- no root needs more
pub record IsTarget (g : Aig) (label : ℕ → ℕ) (roots : List ℕ) (depth begin : ℕ) : Type 0 where
  pub complemented : (l : ℕ) → In roots l → IsSource g Regular (l / 2) → l % 2 ≡ 1 → 1 ≤ depth
  pub nodes : (l : ℕ) → In roots l → IsAnd g (l / 2) → label (l / 2) ≤ depth
  pub reached : HasBegin g label roots depth begin

-- one more root: what it needs is no more, or it is what is found then
pub data IsDeeper (g : Aig) (label : ℕ → ℕ) (l depth begin depth' begin' : ℕ) : Type 0 where
  no_more : (r : ℕ) → IsLevel g label l r → r ≤ depth → depth' ≡ depth → begin' ≡ begin → IsDeeper g label l depth begin depth' begin'
  at_node : IsLevel g label l depth' → depth < depth' → IsAnd g (l / 2) → begin' ≡ l / 2 → IsDeeper g label l depth begin depth' begin'
  at_source : IsLevel g label l depth' → depth < depth' → (IsAnd g (l / 2) → ⊥) → begin' ≡ 0 → IsDeeper g label l depth begin depth' begin'
