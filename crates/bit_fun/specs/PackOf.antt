-- The pack of a template: the functions of its bits over one graph, made in the order of the addresses.
use Rattle.std.specs.Prelude.{◌≡◌, ℕ, ◌+◌, ◌*◌, ◌/◌, ◌%◌, ◌^◌, ◌==◌, if◌then◌else◌, List, [], ◌∷◌, ◌++◌, length, map, replicate, Some, slice_get}
use Rattle.bit_fun.specs.Words.{In, bit_value, digit, Parameter, Lit, Pair, Aig, IsNode, Answer, complement, product_of, Lut, Param, PackParam, PackValue}
use Rattle.bit_fun.specs.Parameters.{IsParam}

-- a literal of a node from the literal that its positive phase has: an odd one is the complement
abbrev pub phase_literal : ℕ → ℕ → ℕ
phase_literal lit made = if (lit % 2) == 1 then complement made else made

-- The function of a node for v, over the pack's nodes so far: leaf j is the constant of the binary digit j of v, the constant is 0, a parameter is its source, and an AND
-- node that is no leaf is the product of its two fan-ins, the lower one made first. Nothing is remembered: a node is made anew at every use.
pub data MakesNode (g : Aig) (first : ℕ) (leaves : List ℕ) (v : ℕ) : List Pair → ℕ → Answer → Type 0 where
  leaf : {pairs : List Pair} {n : ℕ} {made : Answer} (j : ℕ) → slice_get leaves j ≡ Some n → made ≡ record { pairs = pairs; lit = bit_value (digit v j) } → MakesNode g first leaves v pairs n made
  constant : {pairs : List Pair} {n : ℕ} {made : Answer} → n ≡ 0 → made ≡ record { pairs = pairs; lit = 0 } → MakesNode g first leaves v pairs n made
  parameter : {pairs : List Pair} {n : ℕ} {made : Answer} (j : ℕ) → IsParam g j n → made ≡ record { pairs = pairs; lit = 2 * (1 + j) } → MakesNode g first leaves v pairs n made
  node : {pairs : List Pair} {n : ℕ} {made : Answer} (p : Pair) (x y : Answer) → (In leaves n → ⊥) → IsNode g p n → MakesNode g first leaves v pairs (p.x.0 / 2) x → MakesNode g first leaves v x.pairs (p.y.0 / 2) y
      → made ≡ product_of first y.pairs (phase_literal p.x.0 x.lit) (phase_literal p.y.0 y.lit) → MakesNode g first leaves v pairs n made

-- nodes, and the literals of bits that were made over them
pub record BitsMade : Type 0 where
  pub pairs : List Pair
  pub bits : List Lit

-- the bits of a table for v, and for the next ones up to its last
pub data MakesTable (g : Aig) (first : ℕ) (t : Lut) : List Pair → ℕ → BitsMade → Type 0 where
  done : {pairs : List Pair} {v : ℕ} {made : BitsMade} → v ≡ 2 ^ length t.leaves → made ≡ record { pairs = pairs; bits = [] } → MakesTable g first t pairs v made
  more : {pairs : List Pair} {v : ℕ} {made : BitsMade} (this : Answer) (others : BitsMade) → MakesNode g first t.leaves v pairs (t.lit.0 / 2) this → MakesTable g first t this.pairs (1 + v) others
      → made ≡ record { pairs = others.pairs; bits = record { 0 = phase_literal t.lit.0 this.lit } ∷ others.bits } → MakesTable g first t pairs v made

-- the bits of tables in order
pub data MakesTables (g : Aig) (first : ℕ) : List Pair → List Lut → BitsMade → Type 0 where
  none : {pairs : List Pair} {luts : List Lut} {made : BitsMade} → luts ≡ [] → made ≡ record { pairs = pairs; bits = [] } → MakesTables g first pairs luts made
  tables : {pairs : List Pair} {luts : List Lut} {made : BitsMade} (t : Lut) (rest : List Lut) (these others : BitsMade) → luts ≡ t ∷ rest → MakesTable g first t pairs 0 these → MakesTables g first these.pairs rest others
      → made ≡ record { pairs = others.pairs; bits = these.bits ++ others.bits } → MakesTables g first pairs luts made

-- a parameter of a list as one of the pack
abbrev pub pack_param : Param → PackParam
pack_param p = record { name = p.name; init = p.init }

-- The pack of tables over a graph, with the parameters of a list: its graph has the parameters as sources, and the nodes that making the bits in the order of their addresses makes.
pub record IsPackOf (g : Aig) (luts : List Lut) (params : List Param) (pack : PackValue) : Type 0 where
  pub made : BitsMade
  pub makes : MakesTables g (1 + length params) [] luts made
  pub params_are : pack.params ≡ map pack_param params
  pub kinds : pack.graph.kinds ≡ replicate (length params) Parameter
  pub pairs : pack.graph.pairs ≡ made.pairs
  pub bits : pack.bits ≡ made.bits

-- there is one list of parameters, nodes and bits, and no other
pub record HasOnePack (g : Aig) (luts : List Lut) (params : List Param) : Type 0 where
  pub only : (made other : BitsMade) → MakesTables g (1 + length params) [] luts made → MakesTables g (1 + length params) [] luts other → made ≡ other
