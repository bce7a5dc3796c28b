-- Readers are AND nodes above what they read, and addresses of the pack; the lists that are made of a pack's readings are those of its readers.
use Rattle.dirty_idx.proofs.Common.{ℕ, ◌+◌, ◌-◌, ◌/◌, ◌<◌, ◌≤◌, List, length, inl, inr, arith, slice_get_within, Lit, Aig, first_and, IsAnd, IsNormal, AreNormal, Reads, IsLitOf, ◌≡◌, ◌⊎◌, suc, ◌*◌, [], ◌∷◌, ◌++◌, drop, Some, refl, sym, ap, ◌∙◌, subst, slice_get, none-some, same_Some, append_assoc, length-map-range_with_len, get_or-map-range_with_len, cases_eq, In, Pair, node_count, pair_of, PackValue, IsPack, Reading, AreAll, AreReaders, readers_in, lists_of, AreOf, node_readings, bit_readings, rules}
use Rattle.list_laws.proofs.Places.{drop_get}
use Rattle.ppc_pack.specs.declared.pack.PackParam.{PackParam}
use Rattle.dirty_idx.proofs.CountLemmas.{readers_same, readers_other}

pub reads_and : (g : Aig) (n m : ℕ) → Reads g n m → IsAnd g m
reads_and g n m reads = grind (arith, slice_get_within)

pub reads_above : (g : Aig) (n m : ℕ) → AreNormal (first_and g) g.pairs → Reads g n m → n < m
reads_above g n m normal reads =
    let is : IsNormal (first_and g + (m - first_and g)) reads.pair = normal.each (m - first_and g) reads.pair reads.is.is in
    elim reads.fan_in [ inl e ↦ omega arith | inr e ↦ omega arith ]

pub lit_within : (bits : List Lit) (n a : ℕ) → IsLitOf bits n a → a < length bits
lit_within bits n a of = slice_get_within bits a of.lit of.is

-- m is the index of an element that R holds of, where the indices begin at k
pub record IsAt {X : Type 0} (R : X → Type 0) (k : ℕ) (xs : List X) (m : ℕ) : Type 0 where
  pub above : k ≤ m
  pub item : X
  pub is : slice_get xs (m - k) ≡ Some item
  pub holds : R item

module _ {X : Type 0} (R : X → Type 0) (k : ℕ) (x : X) (xs : List X) where
  at_first : R x → IsAt R k (x ∷ xs) k
  at_first r = record { above = omega arith; item = x; is = (let e : k - k ≡ 0 = omega arith in subst (λ i. slice_get (x ∷ xs) i ≡ Some x) (sym e) refl); holds = r }

  at_rest : (m : ℕ) → IsAt R (k + 1) xs m → IsAt R k (x ∷ xs) m
  at_rest m at = grind arith

  at_parts : (m : ℕ) → IsAt R k (x ∷ xs) m → ((m ≡ k) × R x) ⊎ IsAt R (k + 1) xs m
  at_parts m at = search (rules, cases_eq, same_Some)

  -- the first one is among them where R holds of it, and else it is not
  all_first : (ms : List ℕ) → R x → AreAll (IsAt R (k + 1) xs) ms → AreAll (IsAt R k (x ∷ xs)) (k ∷ ms)
  all_first ms r rest = search (rules, at_first, at_rest, at_parts)

  all_rest : (ms : List ℕ) → (R x → ⊥) → AreAll (IsAt R (k + 1) xs) ms → AreAll (IsAt R k (x ∷ xs)) ms
  all_rest ms no_ rest = search (rules, at_rest, at_parts)

all_none : {X : Type 0} (R : X → Type 0) (k : ℕ) → AreAll (IsAt R k []) []
all_none R k = record { ascending = tt; only = λ m i. absurd i; all = λ m at. absurd (none-some at.item at.is) }

all_same : (P Q : ℕ → Type 0) (ms : List ℕ) → ((m : ℕ) → P m → Q m) → ((m : ℕ) → Q m → P m) → AreAll P ms → AreAll Q ms
all_same P Q ms to from all = record { ascending = all.ascending; only = λ m i. to m (all.only m i); all = λ m q. all.all m (from m q) }

-- a pair has a fan-in of a node
abbrev pub HasFanIn : ℕ → Pair → Type 0
HasFanIn n p = (p.x.0 / 2 ≡ n) ⊎ (p.y.0 / 2 ≡ n)

-- of the two readings of a pair at most one is of a node
pair_readers : (k : ℕ) (p : Pair) (ps : List Pair) (n : ℕ) → (p.x.0 / 2 ≡ p.y.0 / 2 → ⊥)
    → (HasFanIn n p × (readers_in (node_readings k (p ∷ ps)) n ≡ k ∷ readers_in (node_readings (k + 1) ps) n)) ⊎ ((HasFanIn n p → ⊥) × (readers_in (node_readings k (p ∷ ps)) n ≡ readers_in (node_readings (k + 1) ps) n))
pair_readers k p ps n apart = grind (arith, cases_eq, readers_same, readers_other)

node_all : (k : ℕ) (ps : List Pair) (n : ℕ) → ((i : ℕ) (p : Pair) → slice_get ps i ≡ Some p → p.x.0 / 2 ≡ p.y.0 / 2 → ⊥) → AreAll (IsAt (HasFanIn n) k ps) (readers_in (node_readings k ps) n)
node_all k [] n apart = all_none (HasFanIn n) k
node_all k (p ∷ ps) n apart =
    let rest : AreAll (IsAt (HasFanIn n) (k + 1) ps) (readers_in (node_readings (k + 1) ps) n) = node_all (k + 1) ps n (λ i q is. apart (suc i) q is) in
    elim (pair_readers k p ps n (apart 0 p refl)) [
      | inl h ↦ subst (AreAll (IsAt (HasFanIn n) k (p ∷ ps))) (sym h.1) (all_first (HasFanIn n) k p ps _ h.0 rest)
      | inr h ↦ subst (AreAll (IsAt (HasFanIn n) k (p ∷ ps))) (sym h.1) (all_rest (HasFanIn n) k p ps _ h.0 rest)
    ]

bit_all : (k : ℕ) (ls : List Lit) (n : ℕ) → AreAll (IsAt (λ (l : Lit). l.0 / 2 ≡ n) k ls) (readers_in (bit_readings k ls) n)
bit_all k [] n = all_none (λ (l : Lit). l.0 / 2 ≡ n) k
bit_all k (l ∷ ls) n = grind (arith, cases_eq, readers_same, all_first, readers_other, all_rest, bit_all (k + 1) ls n)

-- how many readings there are
pub length-node_readings : (k : ℕ) (ps : List Pair) → length (node_readings k ps) ≡ 2 * length ps
length-node_readings k [] = refl
length-node_readings k (p ∷ ps) = let r : length (node_readings (k + 1) ps) ≡ 2 * length ps = length-node_readings (k + 1) ps in omega arith

pub length-bit_readings : (k : ℕ) (ls : List Lit) → length (bit_readings k ls) ≡ length ls
length-bit_readings k [] = refl
length-bit_readings k (l ∷ ls) = ap suc (length-bit_readings (k + 1) ls)

-- each is of a node of the graph
node_below : (k count : ℕ) (ps : List Pair) → k + length ps ≤ count → ((i : ℕ) (p : Pair) → slice_get ps i ≡ Some p → IsNormal (k + i) p) → AreOf count (node_readings k ps)
node_below k count [] h normal r i = absurd i
node_below k count (p ∷ ps) h normal r (inl e) =
    let n : IsNormal (k + 0) p = normal 0 p refl in
    let a : p.x.0 / 2 < p.y.0 / 2 = n.ordered in
    let b : p.y.0 / 2 < k + 0 = n.below in
    subst (λ (q : Reading). q.node < count) (sym e) (let g : p.x.0 / 2 < count = omega arith in g)
node_below k count (p ∷ ps) h normal r (inr (inl e)) =
    let n : IsNormal (k + 0) p = normal 0 p refl in
    let b : p.y.0 / 2 < k + 0 = n.below in
    subst (λ (q : Reading). q.node < count) (sym e) (let g : p.y.0 / 2 < count = omega arith in g)
node_below k count (p ∷ ps) h normal r (inr (inr j)) =
    node_below (k + 1) count ps (omega arith) (λ i q is. subst (λ m. IsNormal m q) (let e : k + suc i ≡ k + 1 + i = omega arith in e) (normal (suc i) q is)) r j

pub nodes_below : (g : Aig) → AreNormal (first_and g) g.pairs → AreOf (node_count g) (node_readings (first_and g) g.pairs)
nodes_below g normal = node_below (first_and g) (node_count g) g.pairs (omega arith) normal.each

bit_below : (k count : ℕ) (ls : List Lit) → ((l : Lit) → In ls l → l.0 < 2 * count) → AreOf count (bit_readings k ls)
bit_below k count [] h r i = absurd i
bit_below k count (l ∷ ls) h r (inl e) = let b : l.0 < 2 * count = h l (inl refl) in subst (λ (q : Reading). q.node < count) (sym e) (let g : l.0 / 2 < count = omega arith in g)
bit_below k count (l ∷ ls) h r (inr j) = bit_below (k + 1) count ls (λ m i. h m (inr i)) r j

pub bits_below : (params : List PackParam) (g : Aig) (bits : List Lit) → IsPack params g bits → AreOf (node_count g) (bit_readings 0 bits)
bits_below params g bits pack = bit_below 0 (node_count g) bits pack.lits

-- so the lists of the readings are those of the readers
pub are_readers : (pack : PackValue) → AreNormal (first_and pack.graph) pack.graph.pairs
    → AreReaders pack (record { nodes = lists_of (node_count pack.graph) (node_readings (first_and pack.graph) pack.graph.pairs); addresses = lists_of (node_count pack.graph) (bit_readings 0 pack.bits) })
are_readers pack normal = search (rules, length-map-range_with_len, get_or-map-range_with_len, all_same, node_all, bit_all)

pub readers_made : (pack : PackValue) (graph : Aig) (bits : List Lit) (count : ℕ) (nodes addresses : List (List ℕ)) → graph ≡ pack.graph → bits ≡ pack.bits → count ≡ node_count graph → AreNormal (first_and graph) graph.pairs
    → nodes ≡ lists_of (node_count graph) (node_readings (first_and graph) graph.pairs) → addresses ≡ lists_of count (bit_readings 0 bits) → AreReaders pack (record { nodes = nodes; addresses = addresses })
readers_made pack graph bits count nodes addresses g b c normal made_nodes made_addresses =
    let k : count ≡ node_count pack.graph = c ∙ ap node_count g in
    let a : addresses ≡ lists_of (node_count pack.graph) (bit_readings 0 pack.bits) = made_addresses ∙ ap (λ m. lists_of m (bit_readings 0 bits)) k ∙ ap (λ ls. lists_of (node_count pack.graph) (bit_readings 0 ls)) b in
    subst (λ ns. AreReaders pack (record { nodes = ns; addresses = addresses })) (sym (made_nodes ∙ ap (λ (h : Aig). lists_of (node_count h) (node_readings (first_and h) h.pairs)) g))
    (subst (λ as_. AreReaders pack (record { nodes = lists_of (node_count pack.graph) (node_readings (first_and pack.graph) pack.graph.pairs); addresses = as_ })) (sym a)
    (are_readers pack (subst (λ (h : Aig). AreNormal (first_and h) h.pairs) g normal)))

-- one more AND node read
pub nodes_more : (g : Aig) (n : ℕ) (p : Pair) (readings : List Reading) → first_and g ≤ n → pair_of g n ≡ Some p → readings ++ node_readings n (drop (n - first_and g) g.pairs) ≡ node_readings (first_and g) g.pairs
    → ((readings ++ record { node = p.x.0 / 2; reader = n } ∷ []) ++ record { node = p.y.0 / 2; reader = n } ∷ []) ++ node_readings (n + 1) (drop (n + 1 - first_and g) g.pairs) ≡ node_readings (first_and g) g.pairs
nodes_more g n p readings above is so = grind (arith, drop_get, append_assoc)
