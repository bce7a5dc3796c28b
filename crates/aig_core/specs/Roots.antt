-- The roots of a graph: its outputs, and the next states of its latches.
use Rattle.std.specs.Prelude.{ℕ, List, ◌++◌, map}
use Rattle.list_laws.specs.Members.{In}
use Rattle.aig_core.specs.declared.lit.Lit.{Lit}
use Rattle.aig_core.specs.Aig.{Aig, IsLit}

pub record RootsValue : Type 0 where
  pub outputs : List Lit
  pub next : List Lit

-- literals as numbers
abbrev pub lits_of : List Lit → List ℕ
lits_of ls = map (λ l. l.0) ls

-- all roots in order
abbrev pub roots_of : RootsValue → List ℕ
roots_of r = lits_of r.outputs ++ lits_of r.next

-- they are literals of the graph
abbrev pub AreRoots : Aig → List ℕ → Type 0
AreRoots g roots = (l : ℕ) → In roots l → IsLit g l
