-- A walk over the cone of a LUT: its edges fall, its postorder visits the lower fan-in first, what it reaches is the cone, and the order that it leaves.
use Rattle.bit_fun.proofs.Common.{◌≡◌, ℕ, ◌-◌, ◌/◌, ◌<◌, ◌≤◌, Bool, true, false, cond, ltb, List, [], ◌∷◌, reverse, Option, Some, refl, sym, ap, ◌∙◌, subst, inl, inr, arith, cases_lt, cond-true, cond-false, le-ltb, lt-ltb, slice_get_past, In, Pair, Aig, first_and, node_count, pair_of, IsNode, IsNormal, AreNormal, node_normal, node_at, IsInner, ends_at, mark_of, Path, path_here, path_left, path_right, stop_inner, true≢false, Way, leads, stops, nodes_of, Posts, PostsAll, none, more, ways_of, ways_from, successors, AreNodes, Reaches, here, through, LeadsBelow, fan_in_edges, cone_edges, cone_next, Visits, passed, walked, None, ◌⊎◌, none-some, ◌||◌, is_stop, IsReached, WalkValue, Visited, falls_through, IsConeOrder, rules, AreApart}
use Rattle.depth_first.specs.declared.edge.Edge.{Edge}
use Rattle.depth_first.specs.declared.edge.Edge.TheVariants.{Node, Pass}
use Rattle.depth_first.specs.Order.{IsAfter}
use Rattle.depth_first.specs.declared.edge.End.{End}

-- both parts of an alternative that fails fail
pub or_fails_left : (a b : Bool) → (a || b) ≡ false → a ≡ false
or_fails_left true b e = e
or_fails_left false b e = refl

pub or_fails_right : (a b : Bool) → (a || b) ≡ false → b ≡ false
or_fails_right true b e = absurd cc
or_fails_right false b e = e

-- a node at which the walk goes on is an AND node and no leaf
pub ends_inner : (g : Aig) (leaves : List ℕ) (kept : List Bool) (n : ℕ) → n < node_count g → ends_at g leaves kept n ≡ false → IsInner g leaves n
ends_inner g leaves kept n l s = stop_inner g leaves n l (or_fails_left (is_stop g leaves n) (mark_of kept n) s)

-- the edges of an AND node
edges_of_node : (S : Type 0) (g : Aig) (leaves : List ℕ) (kept : List Bool) (n : ℕ) (p : Pair) → IsNode g p n → cone_edges {S = S} g leaves kept n ≡ fan_in_edges {S = S} g leaves kept (Some p)
edges_of_node S g leaves kept n p is = grind arith

-- an edge that is taken
edge_taken : (S : Type 0) (ends : Bool) (n : ℕ) (es : List (Edge S)) (k : ℕ) → In (nodes_of (ways_of (cond ends Pass (Node n) ∷ es))) k → ((ends ≡ false) × (k ≡ n)) ⊎ In (nodes_of (ways_of es)) k
edge_taken S true n es k i = inr i
edge_taken S false n es k (inl e) = inl (refl, e)
edge_taken S false n es k (inr i) = inr i

edge_here : (S : Type 0) (ends : Bool) (n : ℕ) (es : List (Edge S)) (k : ℕ) → ends ≡ false → k ≡ n → In (nodes_of (ways_of (cond ends Pass (Node n) ∷ es))) k
edge_here S true n es k f e = absurd (true≢false f)
edge_here S false n es k f e = inl e

edge_later : (S : Type 0) (ends : Bool) (n : ℕ) (es : List (Edge S)) (k : ℕ) → In (nodes_of (ways_of es)) k → In (nodes_of (ways_of (cond ends Pass (Node n) ∷ es))) k
edge_later S true n es k i = i
edge_later S false n es k i = inr i

-- both fan-ins are visited, the lower one first
pub record VisitsBoth (next : ℕ → List ℕ) (g : Aig) (leaves : List ℕ) (kept : List Bool) (before : List ℕ) (p : Pair) (after : List ℕ) : Type 0 where
  pub mid : List ℕ
  pub lower : Visits next g leaves kept before (p.x.0 / 2) mid
  pub upper : Visits next g leaves kept mid (p.y.0 / 2) after

-- no nodes, and one and others
no_posts : (next : ℕ → List ℕ) (before after : List ℕ) → PostsAll next before [] after → after ≡ before
no_posts next before after (none e q) = q
no_posts next before after (more n rest below e p ps) = absurd cc

record OnePosts (next : ℕ → List ℕ) (before : List ℕ) (n : ℕ) (ns after : List ℕ) : Type 0 where
  mid : List ℕ
  one : Posts next before n mid
  others : PostsAll next mid ns after

one_posts : (next : ℕ → List ℕ) (before : List ℕ) (n : ℕ) (ns after : List ℕ) → PostsAll next before (n ∷ ns) after → OnePosts next before n ns after
one_posts next before n ns after (none e q) = absurd cc
one_posts next before n ns after (more m rest below e p ps) = grind arith

-- what a node's edges lead to, by what its fan-ins are
both_of : (S : Type 0) (next : ℕ → List ℕ) (g : Aig) (leaves : List ℕ) (kept : List Bool) (before : List ℕ) (p : Pair) (after : List ℕ) (a b : Bool) → ends_at g leaves kept (p.x.0 / 2) ≡ a → ends_at g leaves kept (p.y.0 / 2) ≡ b
    → PostsAll next before (nodes_of (ways_of {S = S} (cond a Pass (Node (p.x.0 / 2)) ∷ cond b Pass (Node (p.y.0 / 2)) ∷ []))) after → VisitsBoth next g leaves kept before p after
both_of S next g leaves kept before p after true true ea eb all = record { mid = before; lower = passed ea refl; upper = passed eb (no_posts next before after all) }
both_of S next g leaves kept before p after true false ea eb all =
    let o : OnePosts next before (p.y.0 / 2) [] after = one_posts next before (p.y.0 / 2) [] after all in
    record { mid = before; lower = passed ea refl; upper = walked eb (subst (λ xs. Posts next before (p.y.0 / 2) xs) (sym (no_posts next o.mid after o.others)) o.one) }
both_of S next g leaves kept before p after false true ea eb all =
    let o : OnePosts next before (p.x.0 / 2) [] after = one_posts next before (p.x.0 / 2) [] after all in
    record { mid = o.mid; lower = walked ea o.one; upper = passed eb (no_posts next o.mid after o.others) }
both_of S next g leaves kept before p after false false ea eb all =
    let o : OnePosts next before (p.x.0 / 2) ((p.y.0 / 2) ∷ []) after = one_posts next before (p.x.0 / 2) ((p.y.0 / 2) ∷ []) after all in
    let u : OnePosts next o.mid (p.y.0 / 2) [] after = one_posts next o.mid (p.y.0 / 2) [] after o.others in
    record { mid = o.mid; lower = walked ea o.one; upper = walked eb (subst (λ xs. Posts next o.mid (p.y.0 / 2) xs) (sym (no_posts next u.mid after u.others)) u.one) }

pub visits_both : (S : Type 0) (next : ℕ → List ℕ) (g : Aig) (leaves : List ℕ) (kept : List Bool) (before : List ℕ) (n : ℕ) (p : Pair) (after : List ℕ) → IsNode g p n → PostsAll next before (cone_next S g leaves kept n) after → VisitsBoth next g leaves kept before p after
visits_both S next g leaves kept before n p after is all =
    both_of S next g leaves kept before p after (ends_at g leaves kept (p.x.0 / 2)) (ends_at g leaves kept (p.y.0 / 2)) refl refl
    (subst (λ (es : List (Edge S)). PostsAll next before (nodes_of (ways_of es)) after) (edges_of_node S g leaves kept n p is) all)

-- a way on from an AND node leads to a fan-in that is an AND node and no leaf
pub data IsFanIn (g : Aig) (leaves : List ℕ) (kept : List Bool) (p : Pair) (m : ℕ) : Type 0 where
  lower : m ≡ p.x.0 / 2 → ends_at g leaves kept m ≡ false → IsFanIn g leaves kept p m
  upper : m ≡ p.y.0 / 2 → ends_at g leaves kept m ≡ false → IsFanIn g leaves kept p m

abbrev LeadsTo : (S : Type 0) → Aig → List ℕ → List Bool → Pair → Way ℕ S → Type 0
LeadsTo S g leaves kept p (leads m) = IsFanIn g leaves kept p m
LeadsTo S g leaves kept p (stops s) = ⊥

way_of : (S : Type 0) (g : Aig) (leaves : List ℕ) (kept : List Bool) (p : Pair) (w : Way ℕ S) (a b : Bool) → ends_at g leaves kept (p.x.0 / 2) ≡ a → ends_at g leaves kept (p.y.0 / 2) ≡ b
    → In (ways_of {S = S} (cond a Pass (Node (p.x.0 / 2)) ∷ cond b Pass (Node (p.y.0 / 2)) ∷ [])) w → LeadsTo S g leaves kept p w
way_of S g leaves kept p w true true ea eb i = absurd i
way_of S g leaves kept p w true false ea eb (inl e) = subst (LeadsTo S g leaves kept p) (sym e) (upper refl eb)
way_of S g leaves kept p w false true ea eb (inl e) = subst (LeadsTo S g leaves kept p) (sym e) (lower refl ea)
way_of S g leaves kept p w false false ea eb (inl e) = subst (LeadsTo S g leaves kept p) (sym e) (lower refl ea)
way_of S g leaves kept p w false false ea eb (inr (inl e)) = subst (LeadsTo S g leaves kept p) (sym e) (upper refl eb)
way_of S g leaves kept p w false false ea eb (inr (inr i)) = absurd i
way_of S g leaves kept p w a b ea eb (inr i) = absurd i

pub way_to : (S : Type 0) (g : Aig) (leaves : List ℕ) (kept : List Bool) (n : ℕ) (p : Pair) (w : Way ℕ S) → IsNode g p n → In (ways_from {S = S} (cone_edges g leaves kept) n) w → LeadsTo S g leaves kept p w
way_to S g leaves kept n p w is i = grind arith

-- a fan-in is below its node
fan_in_below : (g : Aig) (leaves : List ℕ) (kept : List Bool) (n : ℕ) (p : Pair) (m : ℕ) → IsNormal n p → IsFanIn g leaves kept p m → m < n
fan_in_below g leaves kept n p m normal (lower e s) = let a : p.x.0 / 2 < p.y.0 / 2 = normal.ordered in let b : p.y.0 / 2 < n = normal.below in omega arith
fan_in_below g leaves kept n p m normal (upper e s) = let b : p.y.0 / 2 < n = normal.below in omega arith

leads_below : (S : Type 0) (g : Aig) (leaves : List ℕ) (kept : List Bool) (n : ℕ) (p : Pair) → IsNormal n p → (w : Way ℕ S) → LeadsTo S g leaves kept p w → LeadsBelow (ways_from {S = S} (cone_edges g leaves kept)) (n ∷ []) w
leads_below S g leaves kept n p normal (stops s) l = l
leads_below S g leaves kept n p normal (leads m) l = grind arith

-- a number past the AND nodes, or below them, has no edges
no_edges_below : (S : Type 0) (g : Aig) (leaves : List ℕ) (kept : List Bool) (n : ℕ) → n < first_and g → cone_edges {S = S} g leaves kept n ≡ []
no_edges_below S g leaves kept n l = cond-true (ltb n (first_and g)) [] (fan_in_edges {S = S} g leaves kept (pair_of g n)) (lt-ltb n (first_and g) l)

no_edges_past : (S : Type 0) (g : Aig) (leaves : List ℕ) (kept : List Bool) (n : ℕ) → node_count g ≤ n → cone_edges {S = S} g leaves kept n ≡ []
no_edges_past S g leaves kept n l = grind (arith, cond-false, ltb, le-ltb, slice_get_past)

-- so the edges of a cone fall
pub cone_falls : (S : Type 0) (g : Aig) (leaves : List ℕ) (kept : List Bool) → AreNormal (first_and g) g.pairs → (n : ℕ) (w : Way ℕ S) → In (ways_from (cone_edges g leaves kept) n) w → LeadsBelow (ways_from {S = S} (cone_edges g leaves kept)) (n ∷ []) w
cone_falls S g leaves kept normal n w i = search (rules, cases_lt, no_edges_below, node_at, leads_below, node_normal, way_to, no_edges_past)

-- a successor of a node of the cone is a fan-in of it
pub next_fan_in : (S : Type 0) (g : Aig) (leaves : List ℕ) (kept : List Bool) (n : ℕ) (p : Pair) (m : ℕ) → IsNode g p n → In (cone_next S g leaves kept n) m → IsFanIn g leaves kept p m
next_fan_in S g leaves kept n p m is i = grind arith

fan_in_inner : (g : Aig) (leaves : List ℕ) (kept : List Bool) (p : Pair) (m : ℕ) → m < node_count g → IsFanIn g leaves kept p m → IsInner g leaves m
fan_in_inner g leaves kept p m l (lower e s) = ends_inner g leaves kept m l s
fan_in_inner g leaves kept p m l (upper e s) = ends_inner g leaves kept m l s

-- and is a node of the cone
pub next_inner : (S : Type 0) (g : Aig) (leaves : List ℕ) (kept : List Bool) (n m : ℕ) → AreNormal (first_and g) g.pairs → IsInner g leaves n → In (cone_next S g leaves kept n) m → IsInner g leaves m
next_inner S g leaves kept n m normal inner i = grind (arith, node_at, next_fan_in, fan_in_inner, fan_in_below, node_normal)

-- the AND nodes that are no leaves are the nodes of the walk
pub cone_nodes : (S : Type 0) (g : Aig) (leaves : List ℕ) (kept : List Bool) → AreNormal (first_and g) g.pairs → AreNodes (IsInner g leaves) (successors {S = S} (cone_edges g leaves kept)) (node_count g)
cone_nodes S g leaves kept normal = record { below = λ n inner. inner.and.1; closed = λ n m inner i. next_inner S g leaves kept n m normal inner i }

-- what is reached from a node is a way down from it
pub reach_path : (S : Type 0) (g : Aig) (leaves : List ℕ) (kept : List Bool) (n m : ℕ) → AreNormal (first_and g) g.pairs → IsInner g leaves n → Reaches (cone_next S g leaves kept) n m → Path g leaves m n
reach_path S g leaves kept n m normal inner (here e) = path_here inner (sym e)
reach_path S g leaves kept n m normal inner (through k i r) =
    let p = node_at g n inner.and.0 inner.and.1 in
    let rest : Path g leaves m k = reach_path S g leaves kept k m normal (next_inner S g leaves kept n k normal inner i) r in
    by p.0 p.1 (next_fan_in S g leaves kept n p.0 k p.1 i) rest
  where
    by : (p : Pair) → IsNode g p n → IsFanIn g leaves kept p k → Path g leaves m k → Path g leaves m n
    by p is (lower e s) rest = path_left p inner is (subst (λ x. Path g leaves m x) e rest)
    by p is (upper e s) rest = path_right p inner is (subst (λ x. Path g leaves m x) e rest)

pub reach_inner : (S : Type 0) (g : Aig) (leaves : List ℕ) (kept : List Bool) (n m : ℕ) → AreNormal (first_and g) g.pairs → IsInner g leaves n → Reaches (cone_next S g leaves kept) n m → IsInner g leaves m
reach_inner S g leaves kept n m normal inner (here e) = subst (λ x. IsInner g leaves x) (sym e) inner
reach_inner S g leaves kept n m normal inner (through k i r) = reach_inner S g leaves kept k m normal (next_inner S g leaves kept n k normal inner i) r

-- the walk goes on at all that it reaches
fan_in_on : (g : Aig) (leaves : List ℕ) (kept : List Bool) (p : Pair) (m : ℕ) → IsFanIn g leaves kept p m → ends_at g leaves kept m ≡ false
fan_in_on g leaves kept p m (lower e s) = s
fan_in_on g leaves kept p m (upper e s) = s

reach_on : (S : Type 0) (g : Aig) (leaves : List ℕ) (kept : List Bool) (n m : ℕ) → AreNormal (first_and g) g.pairs → IsInner g leaves n → ends_at g leaves kept n ≡ false → Reaches (cone_next S g leaves kept) n m → ends_at g leaves kept m ≡ false
reach_on S g leaves kept n m normal inner on (here e) = ap (ends_at g leaves kept) e ∙ on
reach_on S g leaves kept n m normal inner on (through k i r) =
    let p = node_at g n inner.and.0 inner.and.1 in
    reach_on S g leaves kept k m normal (next_inner S g leaves kept n k normal inner i) (fan_in_on g leaves kept p.0 k (next_fan_in S g leaves kept n p.0 k p.1 i)) r

-- with more marks it ends wherever it did
pub less_false : (a b : Bool) → (a ≡ true → b ≡ true) → b ≡ false → a ≡ false
less_false true b h e = absurd (true≢false (sym (h refl) ∙ e))
less_false false b h e = refl

or_fails : (a b : Bool) → a ≡ false → b ≡ false → (a || b) ≡ false
or_fails true b e f = e
or_fails false b e f = f

module _ (g : Aig) (leaves : List ℕ) (less more : List Bool) (grows : (m : ℕ) → mark_of less m ≡ true → mark_of more m ≡ true) where
  ends_less : (n : ℕ) → ends_at g leaves more n ≡ false → ends_at g leaves less n ≡ false
  ends_less n e = grind arith

  -- so it takes no other edges
  next_less : (S : Type 0) (n k : ℕ) → In (cone_next S g leaves more n) k → In (cone_next S g leaves less n) k
  next_less S n k i0 = grind (arith, ltb, cond, edge_taken, edge_here, ends_less, edge_later)

  -- and reaches no other nodes
  reaches_less : (S : Type 0) (n m : ℕ) → Reaches (cone_next S g leaves more) n m → Reaches (cone_next S g leaves less) n m
  reaches_less S n m (here e) = here e
  reaches_less S n m (through k i r) = through k (next_less S n k i) (reaches_less S k m r)

  pub order_within : (top : ℕ) (first rest : List ℕ) → IsConeOrder g leaves less top first → IsConeOrder g leaves more top rest → (m : ℕ) → In rest m → In first m
  order_within top first rest a b m i = grind (arith, ends_less, reaches_less)

-- in an order nothing stands twice
after_apart : (next : ℕ → List ℕ) (order : List ℕ) → IsAfter next order → AreApart order
after_apart next [] h = tt
after_apart next (n ∷ ns) h = ((h.1).0, after_apart next ns (h.1).1)

-- what a start alone reaches
from_one : (next : ℕ → List ℕ) (top m : ℕ) → IsReached next (top ∷ []) m → Reaches next top m
from_one next top m r = elim r.member [ inl e ↦ subst (λ n. Reaches next n m) e r.reaches | inr o ↦ absurd o ]

reached_in : (next : ℕ → List ℕ) (top m : ℕ) (before : List ℕ) → before ≡ [] → In before m ⊎ IsReached next (top ∷ []) m → Reaches next top m
reached_in next top m before e (inl i) = absurd (subst (λ xs. In xs m) e i)
reached_in next top m before e (inr r) = from_one next top m r

-- the order of a node at which the walk ends at once
pub no_order : (g : Aig) (leaves : List ℕ) (kept : List Bool) (top : ℕ) (order : List ℕ) → ends_at g leaves kept top ≡ true → order ≡ [] → IsConeOrder g leaves kept top order
no_order g leaves kept top order ends e = grind (arith, true≢false)

-- the order that a walk over a table's leaves left
pub walked_order : (g : Aig) (leaves given : List ℕ) (kept : List Bool) (top : ℕ) (left order : List ℕ) → given ≡ leaves → reverse order ≡ left → IsConeOrder g given kept top left → IsConeOrder g leaves kept top (reverse order)
walked_order g leaves given kept top left order e f cone = subst (λ ls. IsConeOrder g ls kept top (reverse order)) e (subst (IsConeOrder g given kept top) (sym f) cone)

-- of another one, the postorder of its cone
pub cone_order : (g : Aig) (leaves : List ℕ) (kept : List Bool) (top : ℕ) (w v : WalkValue) (found : Option (End (Unit {0}))) → AreNormal (first_and g) g.pairs → IsInner g leaves top → ends_at g leaves kept top ≡ false → w.order ≡ []
    → Visited (cone_edges g leaves kept) w v top found → IsConeOrder g leaves kept top v.order
cone_order g leaves kept top w v None normal inner on e did =
    let reached : (m : ℕ) → In v.order m → Reaches (cone_next (Unit {0}) g leaves kept) top m = λ m i. reached_in (cone_next (Unit {0}) g leaves kept) top m w.order e ((did.reached).only m i) in
    record {
      visit = walked on (subst (λ xs. Posts (cone_next (Unit {0}) g leaves kept) xs top v.order) e did.posts);
      inner = λ m i. reach_inner (Unit {0}) g leaves kept top m normal inner (reached m i);
      apart = after_apart (cone_next (Unit {0}) g leaves kept) v.order did.after;
      reached = reached;
      all = λ m going r. (did.reached).all m (record { start = top; member = inl refl; reaches = r });
      paths = λ m i. reach_path (Unit {0}) g leaves kept top m normal inner (reached m i);
      fresh = λ m i. or_fails_right (is_stop g leaves m) (mark_of kept m) (reach_on (Unit {0}) g leaves kept top m normal inner on (reached m i));
    }
cone_order g leaves kept top w v (Some end) normal inner on e did = grind (arith, none-some, falls_through, cone_falls)
