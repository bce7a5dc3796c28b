-- Nodes that were met in a step are stamped with the step's node.
use Rattle.std.specs.Prelude.{◌≡◌, ℕ, ◌-◌, ◌<◌, ◌≢◌, List, [], ◌∷◌, length, slice_index, Option, Some, None, ◌⊎◌}
use Rattle.aig_core.specs.Aig.{Aig}
use Rattle.list_laws.specs.Members.{In}
use Rattle.cert_check.specs.CertificateValue.{PathValue, StepValue}
use Rattle.cut_sets.specs.Paths.{IsPath}
use Rattle.cert_check.specs.declared.cert_err.CertErr.{CertErr}
use Rattle.cert_check.specs.declared.cert_err.CertErr.TheVariants.{BadPath, Shared}

-- m has the stamp n, is another node, and has a claim below claim - 1
pub record Clashes (stamps claims : List ℕ) (n claim m : ℕ) : Type 0 where
  pub stamped : slice_index stamps m ≡ n
  pub other : m ≢ n
  pub low : slice_index claims m < claim - 1

-- the first of these nodes that does so, or none
abbrev pub IsFirstClash : List ℕ → List ℕ → ℕ → ℕ → List ℕ → Option ℕ → Type 0
IsFirstClash stamps claims n claim [] found = found ≡ None
IsFirstClash stamps claims n claim (m ∷ ms) found = (Clashes stamps claims n claim m × (found ≡ Some m)) ⊎ ((Clashes stamps claims n claim m → ⊥) × IsFirstClash stamps claims n claim ms found)

-- the stamps, with n at these nodes too
pub record AreStamped (old : List ℕ) (n : ℕ) (nodes new : List ℕ) : Type 0 where
  pub size : length new ≡ length old
  pub there : (m : ℕ) → In nodes m → slice_index new m ≡ n
  pub only : (m : ℕ) → In nodes m ⊎ (slice_index new m ≡ slice_index old m)

-- a path of a step without a fault, and what it leaves
pub record IsPathTaken (g : Aig) (claims : List ℕ) (s : StepValue) (p : PathValue) (old new : List ℕ) : Type 0 where
  pub path : IsPath g s.node p.nodes
  pub no_clash : IsFirstClash old claims s.node s.claim p.nodes None
  pub stamps : AreStamped old s.node p.nodes new

-- or its fault
pub data IsPathFault (g : Aig) (claims : List ℕ) (s : StepValue) (p : PathValue) (stamps : List ℕ) (e : CertErr) : Type 0 where
  no_path : (IsPath g s.node p.nodes → ⊥) → e ≡ BadPath p.line → IsPathFault g claims s p stamps e
  clash : (m : ℕ) → IsPath g s.node p.nodes → IsFirstClash stamps claims s.node s.claim p.nodes (Some m) → e ≡ Shared p.line m → IsPathFault g claims s p stamps e
