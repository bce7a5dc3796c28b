-- A worked example: the multiplexer `.names p a b y` with the rows `11- 1` and `0-1 1`, over the inputs a, b and p, of which p is the parameter. Its nodes are 4 = a · p, 5 = b · not p and
-- 6 = not 4 · not 5, and its root is the complement of node 6, the literal 13.
use Rattle.aig_build.proofs.Common.{◌≡◌, ℕ, Bool, true, false, List, [], ◌∷◌, codes, None, refl, Zero, One, Any, CoverValue, LibraryValue, FlatNet, Input, Cover, FlatCoverValue, FlatValue, Param, Regular, Parameter, Lit, Aig, RootsValue, Literals}
use Rattle.netlist.specs.declared.command.Body.TheVariants.{Cover as CoverBody}
use Rattle.aig_core.proofs.ValueExample.{pair, values_101, fits_101}
use Rattle.aig_build.specs.NetlistGraph.{source_kinds, input_names, IsSourceLiteral, an_input, Makes, a_source, a_cover, MakesAll, none, more, AreRootsMade, IsGraphOf}
use Rattle.std.specs.Prelude.{not, bytes_eq}
use Rattle.machine.specs.Machine.{IsRun, steps, stops}
use Rattle.aig_build.specs.NetlistCycle.{graph_machine}
use Rattle.aig_build.proofs.OnlyLemmas.{cover_is}

abbrev choice : CoverValue
choice = record {
  inputs = codes "p" ∷ codes "a" ∷ codes "b" ∷ [];
  output = codes "y";
  value = true;
  rows = record { cells = One ∷ One ∷ Any ∷ [] } ∷ record { cells = Zero ∷ Any ∷ One ∷ [] } ∷ [];
}

abbrev library : LibraryValue
library = record {
  models = record { name = codes "mux"; line = 1; inputs = codes "a" ∷ codes "b" ∷ codes "p" ∷ []; outputs = codes "y" ∷ []; clocks = []; commands = record { line = 4; body = CoverBody choice } ∷ [] } ∷ [];
}

abbrev flat_choice : FlatCoverValue
flat_choice = record { model = 0; command = 0; inputs = Input 2 ∷ Input 0 ∷ Input 1 ∷ [] }

abbrev circuit : FlatValue
circuit = record {
  model = codes "mux";
  inputs = codes "a" ∷ codes "b" ∷ codes "p" ∷ [];
  clocks = [];
  control = None;
  outputs = record { name = codes "y"; net = Cover 0 } ∷ [];
  covers = flat_choice ∷ [];
  latches = [];
  order = 0 ∷ [];
  under = 0;
}

abbrev params : List Param
params = record { name = codes "p"; input = 2; init = false } ∷ []

-- The sources are a and b, and then p.
names : input_names circuit params ≡ codes "a" ∷ codes "b" ∷ codes "p" ∷ []
names = refl

kinds : source_kinds circuit params ≡ Regular ∷ Regular ∷ Parameter ∷ []
kinds = refl

-- Over no node, the inputs have their literals and add nothing.
abbrev lit : ℕ → Lit
lit n = record { 0 = n }

source : (net : FlatNet) (n : ℕ) → IsSourceLiteral circuit params net n → Makes library circuit params [] net (record { pairs = []; lit = n })
source net n is = a_source n is refl

inputs : MakesAll library circuit params [] flat_choice.inputs (record { pairs = []; lits = lit 6 ∷ lit 2 ∷ lit 4 ∷ [] })
inputs =
    more (Input 2) (Input 0 ∷ Input 1 ∷ []) (record { pairs = []; lit = 6 }) (record { pairs = []; lits = lit 2 ∷ lit 4 ∷ [] }) refl (source (Input 2) 6 (an_input 2 2 (codes "p") refl refl refl refl))
    (more (Input 0) (Input 1 ∷ []) (record { pairs = []; lit = 2 }) (record { pairs = []; lits = lit 4 ∷ [] }) refl (source (Input 0) 2 (an_input 0 0 (codes "a") refl refl refl refl))
    (more (Input 1) [] (record { pairs = []; lit = 4 }) (record { pairs = []; lits = [] }) refl (source (Input 1) 4 (an_input 1 1 (codes "b") refl refl refl refl)) (none refl refl) refl) refl) refl

-- The cover over them has three nodes, and so has the root.
abbrev made : Literals
made = record { pairs = pair 2 6 ∷ pair 4 7 ∷ pair 9 11 ∷ []; lits = lit 13 ∷ [] }

root : Makes library circuit params [] (Cover 0) (record { pairs = made.pairs; lit = 13 })
root = a_cover 0 flat_choice choice (record { pairs = []; lits = lit 6 ∷ lit 2 ∷ lit 4 ∷ [] }) refl refl refl inputs (cover_is 4 [] choice (lit 6 ∷ lit 2 ∷ lit 4 ∷ []))

roots : AreRootsMade library circuit params made
roots = more (Cover 0) [] (record { pairs = made.pairs; lit = 13 }) (record { pairs = made.pairs; lits = [] }) refl root (none refl refl) refl

-- So this is its graph, which may have three nodes.
abbrev graph : Aig
graph = record { kinds = Regular ∷ Regular ∷ Parameter ∷ []; pairs = made.pairs; max = 3 }

abbrev literals : RootsValue
literals = record { outputs = lit 13 ∷ []; next = [] }

is_graph : IsGraphOf library circuit params 3 graph literals
is_graph = record { made = made; are_made = roots; kinds = refl; pairs = refl; literals = refl; outputs = refl; max = refl }

-- With a = 1, b = 0 and p = 1 its machine gives a's value.
abbrev values : List ℕ → Bool
values name = not (bytes_eq name (codes "b"))

run : IsRun (graph_machine circuit params graph literals) (values ∷ []) ((true ∷ []) ∷ []) ([] ∷ [])
run = record { start = []; starts = refl; runs = steps values [] (true ∷ []) [] [] [] (record { states = refl; values = values_101; fits = fits_101; outputs_are = refl; next_are = refl }) stops }
