-- The nodes of a graph: the sources come before the AND nodes, and each of these has a pair, which is normal.
use Rattle.aig_core.proofs.Common.{◌≡◌, ℕ, ◌+◌, ◌-◌, ◌<◌, ◌≤◌, length, get_or, sym, ◌∙◌, subst, arith, slice_get-get_or, slice_get_within, same_Some, Kind, Pair, Aig, IsNode, IsNormal, IsSource, AreNormal, first_and, node_count}

-- no source is an AND node
pub source_below : (g : Aig) (kind : Kind) (n : ℕ) → IsSource g kind n → n < first_and g
source_below g kind n s =
    let a : 1 ≤ n = s.above in
    let b : n - 1 < length g.kinds = slice_get_within g.kinds (n - 1) kind s.is in omega arith

-- a node has one pair
pub same_pair : (g : Aig) (p q : Pair) (n : ℕ) → IsNode g p n → IsNode g q n → p ≡ q
same_pair g p q n a b = same_Some p q (sym a.is ∙ b.is)

-- the pair of an AND node of a graph is normal
pub node_normal : (g : Aig) (n : ℕ) (p : Pair) → AreNormal (first_and g) g.pairs → IsNode g p n → IsNormal n p
node_normal g n p normal node =
    let above : first_and g ≤ n = node.above in
    let e : first_and g + (n - first_and g) ≡ n = omega arith in
    subst (λ m. IsNormal m p) e (normal.each (n - first_and g) p node.is)

-- each AND node has a pair
pub node_at : (g : Aig) (n : ℕ) → first_and g ≤ n → n < node_count g → (p : Pair) × IsNode g p n
node_at g n above below =
    let p : Pair = get_or g.pairs (n - first_and g) (record { x = record { 0 = 0 }; y = record { 0 = 0 } }) in
    (p, record { above = above; is = slice_get-get_or g.pairs (n - first_and g) (record { x = record { 0 = 0 }; y = record { 0 = 0 } }) (omega arith) })
