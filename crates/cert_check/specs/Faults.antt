-- The fault of a certificate that isn't valid: the first demand that it doesn't meet, in the order in which it is read. The steps
-- come in their order, then the depth. Of a step its node comes first, then the number of its paths, then path by path whether it is
-- one, and then node by node whether the paths before it have the node too.
use Rattle.std.specs.Prelude.{◌≡◌, ℕ, ◌+◌, ◌<◌, ◌≤◌, ◌≢◌, ◌⊎◌, List, [], ◌∷◌, ◌++◌, length}
use Rattle.aig_core.specs.Aig.{Aig, IsAnd}
use Rattle.list_laws.specs.Members.{In}
use Rattle.cert_check.specs.CertificateValue.{PathValue, StepValue, CertificateValue}
use Rattle.cut_sets.specs.Paths.{IsPath}
use Rattle.cert_check.specs.Valid.{claim_of, path_count, IsReached, IsValid, IsJustified}
use Rattle.cert_check.specs.declared.cert_err.CertErr.{CertErr}
use Rattle.cert_check.specs.declared.cert_err.CertErr.TheVariants.{BadClaim, BadPath, PathCount, Shared, NotReached}

-- the fault where a demand isn't met, and one of the rest where it is
abbrev pub First : Type 0 → CertErr → Type 0 → CertErr → Type 0
First demand fault rest e = ((demand → ⊥) × (e ≡ fault)) ⊎ (demand × rest)

-- a step's node is an AND node, and above those of the steps before it
pub record IsAbove (g : Aig) (before : List StepValue) (s : StepValue) : Type 0 where
  pub and : IsAnd g s.node
  pub above : (t : StepValue) → In before t → t.node < s.node

-- m may stand in a path of the step after these ones: if it stands in one of them, it is the step's node or has a claim of H - 1 at
-- least, where H is the step's
abbrev pub MayStand : (ℕ → ℕ) → StepValue → List PathValue → ℕ → Type 0
MayStand claim s earlier m = (p : PathValue) → In earlier p → In p.nodes m → m ≢ s.node → s.claim ≤ claim m + 1

-- among the nodes of a path
abbrev pub NodesFault : (ℕ → ℕ) → StepValue → List PathValue → ℕ → List ℕ → Type 0 → CertErr → Type 0
NodesFault claim s earlier line [] rest e = rest
NodesFault claim s earlier line (m ∷ ms) rest e = First (MayStand claim s earlier m) (Shared line m) (NodesFault claim s earlier line ms rest e) e

-- among the paths of a step, after earlier ones
abbrev pub PathsFault : Aig → (ℕ → ℕ) → StepValue → List PathValue → List PathValue → Type 0 → CertErr → Type 0
PathsFault g claim s earlier [] rest e = rest
PathsFault g claim s earlier (p ∷ ps) rest e =
    First (IsPath g s.node p.nodes) (BadPath p.line) (NodesFault claim s earlier p.line p.nodes (PathsFault g claim s (earlier ++ p ∷ []) ps rest e) e) e

-- of a step whose node is right, where these are the claims of the nodes
abbrev pub StepFault : Aig → ℕ → (ℕ → ℕ) → StepValue → Type 0 → CertErr → Type 0
StepFault g k claim s rest e = First (length s.paths ≡ path_count k s.claim) (PathCount s.line) (PathsFault g claim s [] s.paths rest e) e

-- among the steps, after earlier ones: only the claims of these count
abbrev pub StepsFault : Aig → ℕ → List StepValue → List StepValue → Type 0 → CertErr → Type 0
StepsFault g k before [] rest e = rest
StepsFault g k before (s ∷ ss) rest e =
    First (IsAbove g before s) (BadClaim s.line) (StepFault g k (claim_of before) s (StepsFault g k (before ++ s ∷ []) ss rest e) e) e

-- of the depth
abbrev pub DepthFault : Aig → List ℕ → CertificateValue → CertErr → Type 0
DepthFault g roots c e = First (IsReached g roots (claim_of c.steps) c.depth) NotReached ⊥ e

-- of the certificate
abbrev pub IsFault : Aig → List ℕ → ℕ → CertificateValue → CertErr → Type 0
IsFault g roots k c e = StepsFault g k [] c.steps (DepthFault g roots c e) e

-- a certificate has one fault at most, and none where it is valid
pub record HasOneVerdict (g : Aig) (roots : List ℕ) (k : ℕ) (c : CertificateValue) : Type 0 where
  pub one_fault : (e f : CertErr) → IsFault g roots k c e → IsFault g roots k c f → e ≡ f
  pub not_both : (e : CertErr) → IsValid g roots k c → IsFault g roots k c e → ⊥

-- a step's node is above those before it, and its claim is shown where the claims before it count
pub record IsNext (g : Aig) (k : ℕ) (before : List StepValue) (s : StepValue) : Type 0 where
  pub above : IsAbove g before s
  pub justified : IsJustified g k (claim_of before) s

-- each of these steps is next after those before it
abbrev pub AreInTurn : Aig → ℕ → List StepValue → List StepValue → Type 0
AreInTurn g k before [] = Unit {0}
AreInTurn g k before (s ∷ ss) = IsNext g k before s × AreInTurn g k (before ++ s ∷ []) ss
