-- The graph of a flat circuit: its sources, and the nodes and the literal of each signal, made again at every use.
use Rattle.std.specs.Prelude.{◌≡◌, ℕ, ◌+◌, ◌*◌, ◌<◌, List, [], ◌∷◌, ◌++◌, length, map, replicate, Some, slice_get}
use Rattle.aig_build.specs.Words.{CoverValue, LibraryValue, FlatNet, Input, Latch, Cover, OutPort, FlatLatch, FlatCoverValue, FlatValue, cover_behind, Param, param_names, regular_names, Kind, Regular, Parameter, Pair, Aig, Answer, RootsValue}
use Rattle.aig_build.specs.CoverGraph.{Literals}
use Rattle.aig_build.specs.CoverNodes.{IsCoverMade}

-- the inputs in the order of their sources: the regular ones in their order, then the parameters in the order of their list
abbrev pub input_names : FlatValue → List Param → List (List ℕ)
input_names flat params = regular_names flat params ++ param_names params

-- the kinds of the sources: of these inputs, then of the latches in flat order
abbrev pub source_kinds : FlatValue → List Param → List Kind
source_kinds flat params = replicate (length (regular_names flat params)) Regular ++ (replicate (length params) Parameter ++ replicate (length flat.latches) Regular)

-- the positive literal of a source: an input's by its name, or a latch's
pub data IsSourceLiteral (flat : FlatValue) (params : List Param) (net : FlatNet) (lit : ℕ) : Type 0 where
  an_input : (i place : ℕ) (name : List ℕ) → net ≡ Input i → slice_get flat.inputs i ≡ Some name → slice_get (input_names flat params) place ≡ Some name → lit ≡ 2 * (1 + place) → IsSourceLiteral flat params net lit
  a_latch : (j : ℕ) → net ≡ Latch j → lit ≡ 2 * (1 + (length (input_names flat params) + j)) → IsSourceLiteral flat params net lit

-- A signal over the nodes that stand: a source has its literal, and a cover is made over its inputs, each of which is made before it, left to right. Nothing is
-- remembered: a signal is made anew at every use, and making it again adds no node, since none is made twice.
mutual
  pub data Makes (library : LibraryValue) (flat : FlatValue) (params : List Param) : List Pair → FlatNet → Answer → Type 0 where
    a_source : {pairs : List Pair} {net : FlatNet} {made : Answer} (lit : ℕ) → IsSourceLiteral flat params net lit → made ≡ record { pairs = pairs; lit = lit } → Makes library flat params pairs net made
    a_cover : {pairs : List Pair} {net : FlatNet} {made : Answer} (k : ℕ) (c : FlatCoverValue) (cover : CoverValue) (inputs : Literals) → net ≡ Cover k → slice_get flat.covers k ≡ Some c
        → cover_behind library c ≡ Some cover → MakesAll library flat params pairs c.inputs inputs → IsCoverMade (1 + length (source_kinds flat params)) inputs.pairs cover inputs.lits made
        → Makes library flat params pairs net made

  pub data MakesAll (library : LibraryValue) (flat : FlatValue) (params : List Param) : List Pair → List FlatNet → Literals → Type 0 where
    none : {pairs : List Pair} {nets : List FlatNet} {made : Literals} → nets ≡ [] → made ≡ record { pairs = pairs; lits = [] } → MakesAll library flat params pairs nets made
    more : {pairs : List Pair} {nets : List FlatNet} {made : Literals} (net : FlatNet) (rest : List FlatNet) (this : Answer) (others : Literals) → nets ≡ net ∷ rest → Makes library flat params pairs net this
        → MakesAll library flat params this.pairs rest others → made ≡ record { pairs = others.pairs; lits = record { 0 = this.lit } ∷ others.lits } → MakesAll library flat params pairs nets made

-- the roots in order: the outputs, then the latches' inputs
abbrev pub root_nets : FlatValue → List FlatNet
root_nets flat = map (λ (o : OutPort). o.net) flat.outputs ++ map (λ (l : FlatLatch). l.input) flat.latches

-- the nodes and the literals of the roots, from no node on
abbrev pub AreRootsMade : LibraryValue → FlatValue → List Param → Literals → Type 0
AreRootsMade library flat params made = MakesAll library flat params [] (root_nets flat) made

-- the graph of a flat circuit that may have so many nodes, and its roots
pub record IsGraphOf (library : LibraryValue) (flat : FlatValue) (params : List Param) (most : ℕ) (g : Aig) (roots : RootsValue) : Type 0 where
  pub made : Literals
  pub are_made : AreRootsMade library flat params made
  pub kinds : g.kinds ≡ source_kinds flat params
  pub pairs : g.pairs ≡ made.pairs
  pub literals : roots.outputs ++ roots.next ≡ made.lits
  pub outputs : length roots.outputs ≡ length flat.outputs
  pub max : g.max ≡ most

-- the graph would have more nodes than it may
pub record HasTooManyNodes (library : LibraryValue) (flat : FlatValue) (params : List Param) (most : ℕ) : Type 0 where
  pub made : Literals
  pub are_made : AreRootsMade library flat params made
  pub many : most < length made.pairs

-- there is one list of nodes and of the roots' literals, and no other
pub record HasOneGraph (library : LibraryValue) (flat : FlatValue) (params : List Param) : Type 0 where
  pub only : (made other : Literals) → AreRootsMade library flat params made → AreRootsMade library flat params other → made ≡ other
