-- What a made certificate keeps beside that it is valid: its claims are the labels, and it claims exactly the nodes whose claims are needed.
use Rattle.std.specs.Prelude.{◌≡◌, ◌⊎◌, ℕ, ◌/◌, ◌<◌, ◌≤◌, List, [], ◌∷◌, Some, slice_get}
use Rattle.flow_cert.specs.Words.{Aig, IsAnd, In, PathValue, StepValue, CertificateValue, Needs}

-- each step claims its node's label
pub record AreLabelClaims (label : ℕ → ℕ) (c : CertificateValue) : Type 0 where
  pub each : (s : StepValue) → In c.steps s → s.claim ≡ label s.node

-- l is the first of these roots that needs the depth, where these are the depths of the nodes
abbrev pub IsFirstToNeed : Aig → (ℕ → ℕ) → ℕ → List ℕ → ℕ → Type 0
IsFirstToNeed g label d [] l = ⊥
IsFirstToNeed g label d (r ∷ rs) l = (Needs g label d r × (l ≡ r)) ⊎ ((Needs g label d r → ⊥) × IsFirstToNeed g label d rs l)

-- m stands in two paths of a step, at different places of its list, and is below its end
pub record IsShared (s : StepValue) (m : ℕ) : Type 0 where
  pub i : ℕ
  pub j : ℕ
  pub p : PathValue
  pub q : PathValue
  pub order : i < j
  pub first : slice_get s.paths i ≡ Some p
  pub second : slice_get s.paths j ≡ Some q
  pub in_first : In p.nodes m
  pub in_second : In q.nodes m
  pub below : m < s.node

-- The nodes whose claims a certificate needs: where its depth isn't 0, the AND node of the first root that needs the depth (there is none
-- where this root is the complement of a source); and each node that two paths of a needed node's step share.
pub data IsNeeded (g : Aig) (roots : List ℕ) (label : ℕ → ℕ) (c : CertificateValue) : ℕ → Type 0 where
  root : {m : ℕ} (l : ℕ) → 1 ≤ c.depth → IsFirstToNeed g label c.depth roots l → IsAnd g (l / 2) → m ≡ l / 2 → IsNeeded g roots label c m
  shared : {m : ℕ} (t : StepValue) → In c.steps t → IsNeeded g roots label c t.node → IsShared t m → IsNeeded g roots label c m

-- there is a step of a node
pub record HasStep (steps : List StepValue) (m : ℕ) : Type 0 where
  pub step : StepValue
  pub there : In steps step
  pub is : step.node ≡ m

-- these nodes have steps, and no others
pub record AreNeeded (g : Aig) (roots : List ℕ) (label : ℕ → ℕ) (c : CertificateValue) : Type 0 where
  pub only : (s : StepValue) → In c.steps s → IsNeeded g roots label c s.node
  pub all : (m : ℕ) → IsNeeded g roots label c m → HasStep c.steps m

-- two certificates show a node by the same paths, where both have a step of it
pub record ShowAlike (c d : CertificateValue) : Type 0 where
  pub each : (s t : StepValue) → In c.steps s → In d.steps t → s.node ≡ t.node → s.paths ≡ t.paths

-- So the paths alone are free: two certificates of one depth that show nodes by the same paths have steps of the same nodes.
pub record HasOneClaiming (g : Aig) (roots : List ℕ) (label : ℕ → ℕ) : Type 0 where
  pub once : (c d : CertificateValue) → AreNeeded g roots label c → AreNeeded g roots label d → c.depth ≡ d.depth → ShowAlike c d → (m : ℕ) → HasStep c.steps m → HasStep d.steps m
