-- Fan-ins of a graph.
use Rattle.flow_label.proofs.Common.{◌≡◌, ℕ, ◌-◌, ◌/◌, ◌<◌, ◌≤◌, List, [], ◌∷◌, ◌++◌, length, get_or, Some, refl, sym, subst, inl, inr, ◌⊎◌, arith, slice_get_within, slice_get-get_or, cases_eq, cases_lt, slice_get, Aig, first_and, node_count, IsAnd, IsNode, IsSource, AreNormal, Regular, Parameter, Pair, node_at, source_below, In, Blocks, constant, parameter, fan_ins, CanBeLeaf, IsLive, AreKnownTo, IsFanIn, first, second, Climbs, IsPath, Blocks-within}
use Rattle.aig_core.specs.declared.lit.Kind.{Kind}
pub use Rattle.cut_sets.proofs.PathLemmas.{fan_in_below, blocked_below}
pub use Rattle.cut_sets.proofs.PathLemmas.{fan_in_cases}

node_and : (g : Aig) (p : Pair) (n : ℕ) → IsNode g p n → IsAnd g n
node_and g p n is = let l : n - first_and g < length g.pairs = slice_get_within g.pairs (n - first_and g) p is.is in let a : first_and g ≤ n = is.above in (a, omega arith)

pub reader_and : (g : Aig) (m n : ℕ) → IsFanIn g m n → IsAnd g n
reader_and g m n (first p is e) = node_and g p n is
reader_and g m n (second p is e) = node_and g p n is

source_kind : (g : Aig) (c : List ℕ) (m : ℕ) (kind : Kind) → 1 ≤ m → slice_get g.kinds (m - 1) ≡ Some kind → Blocks g c m ⊎ CanBeLeaf g m
source_kind g c m Regular a e = inr (inl (record { above = a; is = e }))
source_kind g c m Parameter a e = inl (parameter (record { above = a; is = e }))

-- a node costs nothing or can be a leaf
pub free_or_leaf : (g : Aig) (c : List ℕ) (m : ℕ) → m < node_count g → Blocks g c m ⊎ CanBeLeaf g m
free_or_leaf g c m l = elim (cases_eq m 0) [
  | inl e ↦ inl (constant e)
  | inr ne ↦ elim (cases_lt m (first_and g)) [
    | inl s ↦ source_kind g c m (get_or g.kinds (m - 1) Regular) (omega arith) (slice_get-get_or g.kinds (m - 1) Regular (omega arith))
    | inr a ↦ inr (inr (a, l))
  ]
]

pub leaf_pos : (g : Aig) (m : ℕ) → CanBeLeaf g m → 0 < m
leaf_pos g m (inl s) = let l : 1 ≤ m = s.above in omega arith
leaf_pos g m (inr a) = let l : first_and g ≤ m = a.0 in omega arith

pub leaf_inside : (g : Aig) (m : ℕ) → CanBeLeaf g m → m < node_count g
leaf_inside g m (inl s) = let l : m < first_and g = source_below g Regular m s in omega arith
leaf_inside g m (inr a) = a.1

-- a node below a known one costs nothing or is live
pub free_or_live : (g : Aig) (label : ℕ → ℕ) (c : List ℕ) (m n : ℕ) → AreKnownTo g n label → m < n → m < node_count g → Blocks g c m ⊎ IsLive g label m
free_or_live g label c m n known below l = elim (free_or_leaf g c m l) [
  | inl b ↦ inl b
  | inr leaf ↦ elim leaf [
    | inl s ↦ inr (inl s)
    | inr a ↦ elim (cases_lt (label m) 1) [ inl z ↦ inl (Blocks-within g [] c (λ x i. absurd i) (known.free m below a (omega arith))) | inr h ↦ inr (inr (a, h)) ]
  ]
]

-- a set that blocks all live nodes that an AND node reads blocks the node
pub blocks_by_live : (g : Aig) (label : ℕ → ℕ) (c : List ℕ) (n h : ℕ) → AreNormal (first_and g) g.pairs → AreKnownTo g h label → n ≤ h → IsAnd g n → ((m : ℕ) → IsFanIn g m n → IsLive g label m → Blocks g c m) → Blocks g c n
blocks_by_live g label c n h normal known top and lives =
    let p = node_at g n and.0 and.1 in
    let x : IsFanIn g (p.0.x.0 / 2) n = first p.0 p.1 refl in
    let y : IsFanIn g (p.0.y.0 / 2) n = second p.0 p.1 refl in
    let x_below : p.0.x.0 / 2 < n = fan_in_below g (p.0.x.0 / 2) n normal x in
    let y_below : p.0.y.0 / 2 < n = fan_in_below g (p.0.y.0 / 2) n normal y in
    fan_ins p.0 p.1 (elim (free_or_live g label c (p.0.x.0 / 2) h known (omega arith) (omega arith)) [ inl f ↦ f | inr f ↦ lives (p.0.x.0 / 2) x f ])
    (elim (free_or_live g label c (p.0.y.0 / 2) h known (omega arith) (omega arith)) [ inl f ↦ f | inr f ↦ lives (p.0.y.0 / 2) y f ])

pub live_leaf : (g : Aig) (label : ℕ → ℕ) (m : ℕ) → IsLive g label m → CanBeLeaf g m
live_leaf g label m (inl s) = inl s
live_leaf g label m (inr a) = inr a.0

pub live_pos : (g : Aig) (label : ℕ → ℕ) (m : ℕ) → IsLive g label m → 0 < m
live_pos g label m l = leaf_pos g m (live_leaf g label m l)

pub live_inside : (g : Aig) (label : ℕ → ℕ) (m : ℕ) → IsLive g label m → m < node_count g
live_inside g label m l = leaf_inside g m (live_leaf g label m l)

pub source_not_and : (g : Aig) (s : ℕ) → IsSource g Regular s → IsAnd g s → ⊥
source_not_and g s source a = let l : s < first_and g = source_below g Regular s source in let b : first_and g ≤ s = a.0 in absurd (omega arith)

climbs_push : (g : Aig) (m : ℕ) (ms : List ℕ) (n x : ℕ) → Climbs g m ms n → IsFanIn g n x → Climbs g m (ms ++ x ∷ []) x
climbs_push g m [] n x c f = (subst (λ y. IsFanIn g y x) (sym c) f, refl)
climbs_push g m (y ∷ ys) n x c f = (c.0, climbs_push g y ys n x c.1 f)

pub path_push : (g : Aig) (n x : ℕ) (path : List ℕ) → IsPath g n path → IsFanIn g n x → IsPath g x (path ++ x ∷ [])
path_push g n x [] p f = absurd p
path_push g n x (m ∷ ms) p f = (p.0, climbs_push g m ms n x p.1 f)

climbs_last : (g : Aig) (m : ℕ) (ms : List ℕ) (n : ℕ) → Climbs g m ms n → In (m ∷ ms) n
climbs_last g m [] n c = inl (sym c)
climbs_last g m (x ∷ xs) n c = inr (climbs_last g x xs n c.1)

pub path_last : (g : Aig) (n : ℕ) (path : List ℕ) → IsPath g n path → In path n
path_last g n [] p = absurd p
path_last g n (m ∷ ms) p = climbs_last g m ms n p.1
