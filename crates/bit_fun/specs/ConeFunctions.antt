-- The pass over a cone: which nodes are walked, and what is made of their functions, each node once.
use Rattle.std.specs.Prelude.{◌≡◌, ℕ, ◌+◌, ◌*◌, ◌/◌, ◌^◌, ◌<◌, ◌≤◌, true, false, Bool, not, ◌||◌, ◌⊎◌, ◌++◌, nat_lt, if◌then◌else◌, List, [], ◌∷◌, length, filter, take, Option, Some, None, slice_get, slice_set, slice_index_or}
use Rattle.bit_fun.specs.Words.{In, bit_value, digit, IsAscending, Lit, Pair, Aig, first_and, node_count, pair_of, Answer, product_of, with_pairs, Lut, is_stop, IsInner, IsFree, Path, mark_of, AreFree, Blocks, CanBeLeaf, Posts, successors}
use Rattle.list_laws.specs.Apart.{AreApart}
use Rattle.depth_first.specs.Reach.{Reaches}
use Rattle.depth_first.specs.declared.edge.Edge.{Edge}
use Rattle.depth_first.specs.declared.edge.Edge.TheVariants.{Node, Pass}
use Rattle.bit_fun.specs.Parameters.{param_count, IsParam}
use Rattle.bit_fun.specs.PackOf.{phase_literal, BitsMade, MakesNode, MakesTable, MakesTables}

-- marks after the free nodes of an order have theirs
abbrev pub with_marks : List Bool → List Bool → List ℕ → List Bool
with_marks free marks [] = marks
with_marks free marks (m ∷ ms) = with_marks free (slice_set marks m (mark_of free m)) ms

-- marks after the free nodes of an order got theirs: the old ones, and those
pub record AreMarked (free old new : List Bool) (order : List ℕ) : Type 0 where
  pub stay : (n : ℕ) → mark_of old n ≡ true → mark_of new n ≡ true
  pub these : (n : ℕ) → In order n → mark_of free n ≡ true → mark_of new n ≡ true
  pub only : (n : ℕ) → mark_of new n ≡ true → (mark_of old n ≡ true) ⊎ (In order n × (mark_of free n ≡ true))

-- does the walk stop at a node: at leaves, the constant, sources, and nodes whose literals are kept
abbrev pub ends_at : Aig → List ℕ → List Bool → ℕ → Bool
ends_at g leaves kept m = is_stop g leaves m || mark_of kept m

-- the edge to a node: those at which the walk stops are passed over
abbrev pub cone_edge : {S : Type 0} → Aig → List ℕ → List Bool → ℕ → Edge S
cone_edge g leaves kept m = if ends_at g leaves kept m then Pass else Node m

abbrev pub fan_in_edges : {S : Type 0} → Aig → List ℕ → List Bool → Option Pair → List (Edge S)
fan_in_edges g leaves kept None = []
fan_in_edges g leaves kept (Some p) = cone_edge g leaves kept (p.x.0 / 2) ∷ cone_edge g leaves kept (p.y.0 / 2) ∷ []

-- the edges of an AND node: to its two fan-ins, the lower one first
abbrev pub cone_edges : {S : Type 0} → Aig → List ℕ → List Bool → ℕ → List (Edge S)
cone_edges g leaves kept n = if nat_lt n (first_and g) then [] else fan_in_edges g leaves kept (pair_of g n)

-- the nodes that an AND node's edges lead to
abbrev pub cone_next : (S : Type 0) → Aig → List ℕ → List Bool → ℕ → List ℕ
cone_next S g leaves kept n = successors {S = S} (cone_edges g leaves kept) n

-- a node is walked, or passed over
pub data Visits (next : ℕ → List ℕ) (g : Aig) (leaves : List ℕ) (kept : List Bool) (before : List ℕ) (m : ℕ) (after : List ℕ) : Type 0 where
  passed : ends_at g leaves kept m ≡ true → after ≡ before → Visits next g leaves kept before m after
  walked : ends_at g leaves kept m ≡ false → Posts next before m after → Visits next g leaves kept before m after

-- The order of a table's cone, the last node first: the postorder of the walk from the table's node. Each node that the walk reaches stands there once, and none whose literal is kept.
pub record IsConeOrder (g : Aig) (leaves : List ℕ) (kept : List Bool) (top : ℕ) (order : List ℕ) : Type 0 where
  pub visit : Visits (cone_next (Unit {0}) g leaves kept) g leaves kept [] top order
  pub inner : (m : ℕ) → In order m → IsInner g leaves m
  pub apart : AreApart order
  pub reached : (m : ℕ) → In order m → Reaches (cone_next (Unit {0}) g leaves kept) top m
  pub all : (m : ℕ) → ends_at g leaves kept top ≡ false → Reaches (cone_next (Unit {0}) g leaves kept) top m → In order m
  pub paths : (m : ℕ) → In order m → Path g leaves m top
  pub fresh : (m : ℕ) → In order m → mark_of kept m ≡ false

-- the pack's nodes so far, and a literal of the pack for each node of the graph
pub record PassValue : Type 0 where
  pub pairs : List Pair
  pub lits : List Lit

-- the literal of a node
abbrev pub lit_of : List Lit → ℕ → ℕ
lit_of lits n = (slice_index_or lits n (record { 0 = 0 })).0

-- the literal of a fan-in in its phase
abbrev pub fan_in : List Lit → ℕ → ℕ
fan_in lits lit = phase_literal lit (lit_of lits (lit / 2))

-- the product of a node's fan-ins as the node's literal
abbrev pub with_made : List Lit → ℕ → Answer → PassValue
with_made lits n a = record { pairs = a.pairs; lits = slice_set lits n (record { 0 = a.lit }) }

abbrev pub made_node : ℕ → PassValue → ℕ → Option Pair → PassValue
made_node first s n None = s
made_node first s n (Some p) = with_made s.lits n (product_of first s.pairs (fan_in s.lits p.x.0) (fan_in s.lits p.y.0))

-- the nodes of an order, which stands the last first, one after the other
abbrev pub pass_over : Aig → ℕ → PassValue → List ℕ → PassValue
pass_over g first s [] = s
pass_over g first s (n ∷ ns) = made_node first (pass_over g first s ns) n (pair_of g n)

-- the constant and the parameters have their literals
pub record HaveSourceLits (g : Aig) (lits : List Lit) : Type 0 where
  pub long : length lits ≡ node_count g
  pub constant : lit_of lits 0 ≡ 0
  pub parameter : (j n : ℕ) → IsParam g j n → lit_of lits n ≡ 2 * (1 + j)

-- so has each leaf: the constant of its digit of v
pub record HaveLeafLits (leaves : List ℕ) (v : ℕ) (lits : List Lit) : Type 0 where
  pub each : (j n : ℕ) → slice_get leaves j ≡ Some n → lit_of lits n ≡ bit_value (digit v j)

-- the leaves from a place on as the constants of their digits of v
abbrev pub with_leaves : List Lit → ℕ → ℕ → List ℕ → List Lit
with_leaves lits v place [] = lits
with_leaves lits v place (m ∷ ms) = with_leaves (slice_set lits m (record { 0 = bit_value (digit v place) })) v (place + 1) ms

-- the same of the first sources, with literals below those of one more parameter than there are
pub record HaveSourceLitsTo (g : Aig) (i count : ℕ) (lits : List Lit) : Type 0 where
  pub counted : count ≡ param_count (take i g.kinds)
  pub long : length lits ≡ node_count g
  pub constant : lit_of lits 0 ≡ 0
  pub parameter : (j n : ℕ) → IsParam g j n → n ≤ i → lit_of lits n ≡ 2 * (1 + j)
  pub below : (m : ℕ) → lit_of lits m < 2 * (1 + param_count g.kinds)

-- each node of the graph has a literal of the pack
pub record AreLits (g pack : Aig) (lits : List Lit) : Type 0 where
  pub long : length lits ≡ node_count g
  pub below : (m : ℕ) → lit_of lits m < 2 * node_count pack

-- a pack got some nodes more, as many at most, and each node of the graph has a literal of it
pub record IsGrown (g old new : Aig) (most : ℕ) (after : List Lit) : Type 0 where
  pub same : new ≡ with_pairs old new.pairs
  pub few : length new.pairs ≤ length old.pairs + most
  pub lits : AreLits g new after

-- the nodes of an order were made, one at most for each
pub record IsMadeOver (g old : Aig) (before : List Lit) (order : List ℕ) (new : Aig) (after : List Lit) : Type 0 where
  pub made : record { pairs = new.pairs; lits = after } ≡ pass_over g (first_and old) (record { pairs = old.pairs; lits = before }) order
  pub grown : IsGrown g old new (length order) after

-- a table over the graph: its leaves ascend, each is a regular source or an AND node, and they block its node
pub record IsTableIn (g : Aig) (t : Lut) : Type 0 where
  pub ascending : IsAscending t.leaves
  pub kinds : (m : ℕ) → In t.leaves m → CanBeLeaf g m
  pub blocks : Blocks g t.leaves (t.lit.0 / 2)
  pub inside : t.lit.0 / 2 < node_count g

-- the literal of a free node stands: over the pack's nodes and any more, making its function gives this literal and adds nothing
pub record Stands (g pack : Aig) (lits : List Lit) (m : ℕ) : Type 0 where
  pub again : (more : List Pair) → MakesNode g (first_and pack) [] 0 (pack.pairs ++ more) m (record { pairs = pack.pairs ++ more; lit = lit_of lits m })

-- the kept nodes are free, and their literals stand
pub record AreKept (g : Aig) (luts : List Lut) (pack : Aig) (kept : List Bool) (lits : List Lit) : Type 0 where
  pub free : AreFree g luts kept
  pub stand : (m : ℕ) → mark_of kept m ≡ true → Stands g pack lits m

-- the state between two bits: each node has a literal, the sources have theirs, and the kept nodes too
pub record IsBetween (g : Aig) (luts : List Lut) (pack : Aig) (kept : List Bool) (lits : List Lit) : Type 0 where
  pub literals : AreLits g pack lits
  pub sources : HaveSourceLits g lits
  pub keeps : AreKept g luts pack kept lits

-- all is ready for a bit of a table: the order of its cone, and the state between two bits
pub record IsBitReady (g : Aig) (luts : List Lut) (kept : List Bool) (t : Lut) (order : List ℕ) (pack : Aig) (lits : List Lit) : Type 0 where
  pub among : In luts t
  pub order_is : IsConeOrder g t.leaves kept (t.lit.0 / 2) order
  pub between : IsBetween g luts pack kept lits

-- the bit of a table for v was made
pub record IsBitMade (g : Aig) (luts : List Lut) (kept : List Bool) (t : Lut) (v : ℕ) (order : List ℕ) (old new : Aig) (after : List Lit) (bit : Lit) : Type 0 where
  pub lit : ℕ
  pub makes : MakesNode g (first_and old) t.leaves v old.pairs (t.lit.0 / 2) (record { pairs = new.pairs; lit = lit })
  pub is : bit ≡ record { 0 = phase_literal t.lit.0 lit }
  pub same : new ≡ with_pairs old new.pairs
  pub between : IsBetween g luts new kept after
  pub stand : (m : ℕ) → In order m → IsFree g luts m → Stands g new after m

-- the bits of a table from one digit to before another were made, and the next ones go on from here
pub record AreBitsMade (g : Aig) (luts : List Lut) (t : Lut) (from to : ℕ) (old : Aig) (before : List Lit) (new : Aig) (kept : List Bool) (lits after : List Lit) : Type 0 where
  pub added : List Lit
  pub are : after ≡ before ++ added
  pub makes : (rest : BitsMade) → MakesTable g (first_and old) t new.pairs to rest → MakesTable g (first_and old) t old.pairs from (record { pairs = rest.pairs; bits = added ++ rest.bits })
  pub same : new ≡ with_pairs old new.pairs
  pub between : IsBetween g luts new kept lits

-- how the nodes of a table's cone are counted: each is one of its own, which are made at each address, or one of the shared ones, which are free and so made once
pub record AreCounted (g : Aig) (free : List Bool) (t : Lut) (own shared : List ℕ) : Type 0 where
  pub each : (m : ℕ) → Path g t.leaves m (t.lit.0 / 2) → In own m ⊎ In shared m
  pub marked : (m : ℕ) → In shared m → mark_of free m ≡ true
  pub apart : AreApart shared

-- how many of the shared nodes wait to be made: their literals aren't kept yet
abbrev pub waiting : List Bool → List ℕ → ℕ
waiting kept shared = length (filter (λ m. not (mark_of kept m)) shared)

-- the work of tables, where their nodes are counted so
abbrev pub IsCountedWork : Aig → List Bool → List ℕ → List Lut → ℕ → Type 0
IsCountedWork g free shared [] work = work ≡ 0
IsCountedWork g free shared (t ∷ ts) work = (own : List ℕ) × (rest : ℕ) × AreCounted g free t own shared × IsCountedWork g free shared ts rest × (work ≡ 2 ^ length t.leaves * (1 + length own) + rest)

-- a pack has room for a table
pub record HasRoom (g : Aig) (free : List Bool) (t : Lut) (kept : List Bool) (pack : Aig) : Type 0 where
  pub own : List ℕ
  pub shared : List ℕ
  pub counted : AreCounted g free t own shared
  pub room : length pack.pairs + 2 ^ length t.leaves * length own + waiting kept shared ≤ pack.max

-- making a table took no more: its own nodes at each address, and the shared ones that wait no more
pub record IsTableWithin (g : Aig) (free : List Bool) (t : Lut) (old : Aig) (kept_before : List Bool) (new : Aig) (kept : List Bool) : Type 0 where
  pub few : (own shared : List ℕ) → AreCounted g free t own shared → length new.pairs + waiting kept shared ≤ length old.pairs + 2 ^ length t.leaves * length own + waiting kept_before shared

-- the bits of the first tables were made, and those that are left go on from here, within the work that is left
pub record AreTablesMadeTo (g : Aig) (free : List Bool) (tables left : List Lut) (old new : Aig) (kept : List Bool) (lits bits : List Lit) : Type 0 where
  pub makes : (rest : BitsMade) → MakesTables g (first_and old) new.pairs left rest → MakesTables g (first_and old) old.pairs tables (record { pairs = rest.pairs; bits = bits ++ rest.bits })
  pub same : new ≡ with_pairs old new.pairs
  pub shared : List ℕ
  pub work : ℕ
  pub is : IsCountedWork g free shared left work
  pub room : length new.pairs + work + waiting kept shared ≤ old.max
  pub between : IsBetween g tables new kept lits

-- the bits of all tables were made
pub record HasAllTables (g : Aig) (tables : List Lut) (old new : Aig) (lits bits : List Lit) : Type 0 where
  pub free : List Bool
  pub kept : List Bool
  pub made : AreTablesMadeTo g free tables [] old new kept lits bits

-- what making one bit of a LUT, its later bits and all its bits does to the pack, for any LUTs and kept nodes for which all is ready
abbrev pub AddsBit : Aig → Lut → ℕ → List ℕ → Aig → List Lit → Aig → List Lit → Lit → Type 0
AddsBit g t v order old before new after bit = (luts : List Lut) (kept : List Bool) → IsBitReady g luts kept t order old before → IsBitMade g luts kept t v order old new after bit

abbrev pub AddsLaterBits : Aig → Lut → List ℕ → Aig → List Lit → List Lit → Aig → List Lit → List Lit → Type 0
AddsLaterBits g t order old before bits new after made = (luts : List Lut) (kept : List Bool) → IsBitReady g luts kept t order old before
    → AreBitsMade g luts t 1 (2 ^ length t.leaves) old bits new kept after made

abbrev pub AddsBits : Aig → Lut → List Bool → Aig → List Bool → List Lit → List Lit → Aig → List Bool → List Lit → List Lit → Type 0
AddsBits g t free old kept before bits new kept' after made = (luts : List Lut) → In luts t → AreFree g luts free → IsBetween g luts old kept before
    → AreBitsMade g luts t 0 (2 ^ length t.leaves) old bits new kept' after made
