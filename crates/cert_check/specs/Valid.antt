-- When a certificate is valid: each step's paths show its claim, and some root is as deep as the certificate says.
use Rattle.std.specs.Prelude.{◌≡◌, ℕ, ◌+◌, ◌/◌, ◌%◌, ◌<◌, ◌≤◌, ◌≢◌, ◌⊎◌, if◌then◌else◌, ◌==◌, List, [], ◌∷◌, length, map, Some, slice_get, Option}
use Rattle.aig_core.specs.Aig.{Aig, IsAnd, IsSource}
use Rattle.aig_core.specs.declared.lit.Kind.TheVariants.{Regular}
use Rattle.list_laws.specs.Members.{In}
use Rattle.list_laws.specs.Order.{IsAscending}
use Rattle.cert_check.specs.CertificateValue.{PathValue, StepValue, CertificateValue}
use Rattle.cut_sets.specs.Paths.{IsPath}
use Rattle.cut_sets.specs.Covers.{IsCover, HasDepth, RootsWithin}

-- the claim of a node: that of its step, and 0 without one
abbrev pub claim_of : List StepValue → ℕ → ℕ
claim_of [] n = 0
claim_of (s ∷ ss) n = if s.node == n then s.claim else claim_of ss n

-- how many paths show a claim, for tables of at most k leaves: one shows a claim of 1, and k + 1 another one
abbrev pub path_count : ℕ → ℕ → ℕ
path_count k claim = if claim == 1 then 1 else k + 1

-- A step's claim H is shown by its paths, where these are the claims of the nodes: a node other than the step's that stands in two of
-- the paths has a claim of H - 1 at least.
pub record IsJustified (g : Aig) (k : ℕ) (claim : ℕ → ℕ) (s : StepValue) : Type 0 where
  pub count : length s.paths ≡ path_count k s.claim
  pub paths : (p : PathValue) → In s.paths p → IsPath g s.node p.nodes
  pub apart : (i j m : ℕ) (p q : PathValue) → i < j → slice_get s.paths i ≡ Some p → slice_get s.paths j ≡ Some q → In p.nodes m → In q.nodes m → m ≢ s.node → s.claim ≤ claim m + 1

-- a root needs a depth: it is an AND node for which it is claimed, or the depth is 1 and it is the complement of a regular source
pub data Needs (g : Aig) (claim : ℕ → ℕ) (d root : ℕ) : Type 0 where
  node : IsAnd g (root / 2) → d ≤ claim (root / 2) → Needs g claim d root
  complemented : d ≡ 1 → IsSource g Regular (root / 2) → root % 2 ≡ 1 → Needs g claim d root

-- some root of a list does
abbrev pub SomeNeeds : Aig → List ℕ → (ℕ → ℕ) → ℕ → Type 0
SomeNeeds g [] claim d = ⊥
SomeNeeds g (root ∷ roots) claim d = Needs g claim d root ⊎ SomeNeeds g roots claim d

-- the depth is 0, or some root needs it
abbrev pub IsReached : Aig → List ℕ → (ℕ → ℕ) → ℕ → Type 0
IsReached g roots claim d = (d ≡ 0) ⊎ SomeNeeds g roots claim d

-- A valid certificate of a graph and its roots, for tables of at most k leaves: its steps are of AND nodes and ascend by them, each claim
-- is shown, and the depth is reached.
pub record IsValid (g : Aig) (roots : List ℕ) (k : ℕ) (c : CertificateValue) : Type 0 where
  pub ascending : IsAscending (map (λ s. s.node) c.steps)
  pub nodes : (s : StepValue) → In c.steps s → IsAnd g s.node
  pub justified : (s : StepValue) → In c.steps s → IsJustified g k (claim_of c.steps) s
  pub reached : IsReached g roots (claim_of c.steps) c.depth

-- What a valid certificate is good for.

-- no cover of the graph for these roots, whatever its cuts of at most k leaves, has a depth below d
pub record IsLowerBound (g : Aig) (k : ℕ) (roots : List ℕ) (d : ℕ) : Type 0 where
  pub least : (cover : ℕ → Option (List ℕ)) (e : ℕ) → IsCover g k roots cover → RootsWithin g cover roots e → d ≤ e

-- nor does any cover have a node at a lower depth than is claimed for it
pub record AreLowerBounds (g : Aig) (k : ℕ) (claim : ℕ → ℕ) : Type 0 where
  pub least : (roots : List ℕ) (cover : ℕ → Option (List ℕ)) (n d : ℕ) → IsCover g k roots cover → HasDepth g cover n d → claim n ≤ d
