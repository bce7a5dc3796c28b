-- The covers of a flat circuit as the code makes them: in order, each one once, into a literal for each cover.
use Rattle.std.specs.Prelude.{◌≡◌, ℕ, ◌+◌, ◌*◌, ◌^◌, ◌<◌, ◌≤◌, Bool, true, false, if◌then◌else◌, List, [], ◌∷◌, length, map, replicate, Option, Some, None, All, unwrap_or, slice_get, slice_set}
use Rattle.aig_build.specs.Words.{CoverValue, LibraryValue, FlatNet, Input, Latch, Cover, OutPort, FlatLatch, FlatCoverValue, FlatValue, cover_behind, Param, Lit, Pair, Aig, IsLit, first_and, Answer, RootsValue}
use Rattle.aig_build.specs.CoverMade.{cover_made}
use Rattle.aig_build.specs.NetlistGraph.{source_kinds}

-- the literals of nets: of the inputs by their places, of the latches from their first index on, and of the covers
pub record NetLitsValue : Type 0 where
  pub inputs : List Lit
  pub latches : ℕ
  pub covers : List Lit

-- the constant 0, which stands for a cover that isn't made yet
abbrev pub no_lit : Lit
no_lit = record { 0 = 0 }

abbrev pub net_lit : NetLitsValue → FlatNet → Lit
net_lit nets (Input i) = unwrap_or (slice_get nets.inputs i) no_lit
net_lit nets (Latch j) = record { 0 = 2 * (nets.latches + j) }
net_lit nets (Cover k) = unwrap_or (slice_get nets.covers k) no_lit

abbrev pub net_lits : NetLitsValue → List FlatNet → List Lit
net_lits nets ns = map (net_lit nets) ns

-- a literal for one more cover
abbrev pub with_cover : NetLitsValue → ℕ → Lit → NetLitsValue
with_cover nets k lit = record nets { covers = slice_set nets.covers k lit }

-- the nodes so far, and the literals of the nets
pub record Built : Type 0 where
  pub pairs : List Pair
  pub nets : NetLitsValue

-- the cover at a place, made over the literals of the nets that it reads
abbrev pub behind_made : ℕ → List Pair → Option CoverValue → List Lit → Answer
behind_made first pairs None inputs = record { pairs = pairs; lit = 0 }
behind_made first pairs (Some cover) inputs = cover_made first pairs cover inputs

abbrev pub gate_made : LibraryValue → ℕ → Built → Option FlatCoverValue → Answer
gate_made library first built None = record { pairs = built.pairs; lit = 0 }
gate_made library first built (Some c) = behind_made first built.pairs (cover_behind library c) (net_lits built.nets c.inputs)

abbrev pub with_gate : Built → ℕ → Answer → Built
with_gate built k made = record { pairs = made.pairs; nets = with_cover built.nets k (record { 0 = made.lit }) }

-- the covers of an order, each after those before it
abbrev pub walked : LibraryValue → FlatValue → ℕ → Built → List ℕ → Built
walked library flat first built [] = built
walked library flat first built (k ∷ ks) = walked library flat first (with_gate built k (gate_made library first built (slice_get flat.covers k))) ks

-- marks at the inputs that are parameters
abbrev pub marked : List Bool → List Param → List Bool
marked marks [] = marks
marked marks (p ∷ ps) = marked (slice_set marks p.input true) ps

-- the positive literals of the unmarked inputs in order, from this index on, and the index after them
abbrev pub regular_lit : ℕ → Bool → Lit
regular_lit next mark = if mark then no_lit else record { 0 = 2 * next }

abbrev pub index_behind : ℕ → Bool → ℕ
index_behind next mark = if mark then next else next + 1

abbrev pub regular_lits : ℕ → List Bool → List Lit
regular_lits next [] = []
regular_lits next (mark ∷ marks) = regular_lit next mark ∷ regular_lits (index_behind next mark) marks

abbrev pub regular_next : ℕ → List Bool → ℕ
regular_next next [] = next
regular_next next (mark ∷ marks) = regular_next (index_behind next mark) marks

-- and those of the parameters in the order of their list
abbrev pub with_param_lits : List Lit → ℕ → List Param → List Lit
with_param_lits lits next [] = lits
with_param_lits lits next (p ∷ ps) = with_param_lits (slice_set lits p.input (record { 0 = 2 * next })) (next + 1) ps

-- the literals of the nets at the start, when no cover is made yet
abbrev pub marks_of : FlatValue → List Param → List Bool
marks_of flat params = marked (replicate (length flat.inputs) false) params

abbrev pub start_nets : FlatValue → List Param → NetLitsValue
start_nets flat params = record {
  inputs = with_param_lits (regular_lits 1 (marks_of flat params)) (regular_next 1 (marks_of flat params)) params;
  latches = regular_next 1 (marks_of flat params) + length params;
  covers = replicate (length flat.covers) no_lit;
}

-- the graph at the start, which may have so many nodes
abbrev pub source_aig : FlatValue → List Param → ℕ → Aig
source_aig flat params most = record { kinds = source_kinds flat params; pairs = []; max = most }

-- one cover, and all covers of an order, over the nodes of a graph
abbrev pub gate_of : LibraryValue → FlatValue → Aig → NetLitsValue → ℕ → Answer
gate_of library flat g nets k = gate_made library (first_and g) (record { pairs = g.pairs; nets = nets }) (slice_get flat.covers k)

abbrev pub order_of : LibraryValue → FlatValue → Aig → NetLitsValue → List ℕ → Built
order_of library flat g nets ks = walked library flat (first_and g) (record { pairs = g.pairs; nets = nets }) ks

-- the literals of the roots
abbrev pub root_lits : FlatValue → NetLitsValue → RootsValue
root_lits flat nets = record { outputs = map (λ (o : OutPort). net_lit nets o.net) flat.outputs; next = map (λ (l : FlatLatch). net_lit nets l.input) flat.latches }

-- a net has its place among the literals
abbrev pub IsHeld : NetLitsValue → FlatNet → Type 0
IsHeld nets (Input i) = i < length nets.inputs
IsHeld nets (Latch j) = nets.latches + j < 2 ^ 30
IsHeld nets (Cover k) = k < length nets.covers

-- there is a literal of the graph for each net of the flat circuit
pub record HoldsNets (flat : FlatValue) (g : Aig) (nets : NetLitsValue) : Type 0 where
  pub inputs : length nets.inputs ≡ length flat.inputs
  pub covers : length nets.covers ≡ length flat.covers
  pub latches : nets.latches + length flat.latches ≤ first_and g
  pub small : first_and g < 2 ^ 30
  pub input_lits : All (λ (lit : Lit). IsLit g lit.0) nets.inputs
  pub cover_lits : All (λ (lit : Lit). IsLit g lit.0) nets.covers
