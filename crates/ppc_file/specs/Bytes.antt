-- The bytes of a pack in each version of its file.
use Rattle.std.specs.Prelude.{ℕ, ◌+◌, ◌-◌, ◌*◌, Bool, if◌then◌else◌, List, [], ◌∷◌, ◌++◌, length, codes}
use Rattle.std.specs.Int.{w16, w32, to_be_bytes}
use Rattle.std.specs.List.{flat_map}
use Rattle.ppc_file.specs.Words.{Lit, Pair, PackParam, PackValue}
use Rattle.ppc_file.specs.declared.version.Version.{Version}
use Rattle.ppc_file.specs.declared.version.Version.TheVariants.{One, Two}
use Rattle.ppc_file.specs.Numbers.{spelled}

-- the four letters that each file begins with
abbrev pub magic : List ℕ
magic = codes "TPPC"

abbrev pub version_number : Version → ℕ
version_number One = 1
version_number Two = 2

abbrev pub head_bytes : Version → List ℕ
head_bytes v = magic ++ to_be_bytes w16 (version_number v)

abbrev pub bit_byte : Bool → ℕ
bit_byte b = if b then 1 else 0

-- a parameter: how many bytes its name has, the name, and its value at the start
abbrev pub param_bytes : Version → PackParam → List ℕ
param_bytes v p = spelled v w16 (length p.name) ++ (p.name ++ bit_byte p.init ∷ [])

-- An AND node with an index: its fan-ins, the lower first; in version 2 how far the higher one is below the node's literal, and how far the lower one is below that.
abbrev pub node_bytes : Version → ℕ → Pair → List ℕ
node_bytes One node p = to_be_bytes w32 p.x.0 ++ to_be_bytes w32 p.y.0
node_bytes Two node p = spelled Two w32 (2 * node - p.y.0) ++ spelled Two w32 (p.y.0 - p.x.0)

-- nodes in a row, the first of them with this index
abbrev pub nodes_bytes : Version → ℕ → List Pair → List ℕ
nodes_bytes v node [] = []
nodes_bytes v node (p ∷ ps) = node_bytes v node p ++ nodes_bytes v (node + 1) ps

abbrev pub bit_bytes : Version → Lit → List ℕ
bit_bytes v l = spelled v w32 l.0

-- the parts of a file, each with a number before it
abbrev pub params_part : Version → ℕ → List PackParam → List ℕ
params_part v count ps = spelled v w16 count ++ flat_map (param_bytes v) ps

abbrev pub nodes_part : Version → ℕ → ℕ → List Pair → List ℕ
nodes_part v first count ps = spelled v w32 count ++ nodes_bytes v first ps

abbrev pub bits_part : Version → ℕ → List Lit → List ℕ
bits_part v count ls = spelled v w32 count ++ flat_map (bit_bytes v) ls

-- the file of a pack
abbrev pub bytes_of : Version → PackValue → List ℕ
bytes_of v pack =
    head_bytes v
    ++ (params_part v (length pack.params) pack.params
    ++ (nodes_part v (1 + length pack.params) (length pack.graph.pairs) pack.graph.pairs ++ bits_part v (length pack.bits) pack.bits))
