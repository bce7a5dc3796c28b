-- The free nodes: how they are marked, and that they can be counted once.
use Rattle.cover_pick.proofs.Common.{◌≡◌, ℕ, zero, suc, ◌+◌, ◌-◌, ◌/◌, ◌<◌, ◌≤◌, Bool, true, false, List, [], ◌∷◌, length, replicate, slice_set, slice_get, slice_get_within, get_or-replicate, get_or_past, length-set, length-replicate, refl, sym, ap, ◌∙◌, subst, inl, inr, ◌⊎◌, arith, cases_lt, cases_eq, Option, Some, None, none-some, In, Pair, Aig, first_and, node_count, pair_of, IsNode, IsNormal, IsSource, Regular, Parameter, AreNormal, node_normal, source_below, Lut, CanBeLeaf, IsFree, free_constant, free_parameter, free_product, mark_of, AreFree, AreFreeTo, HasFreeParts, is_constant, is_parameter, has_fan_ins, unmarked, all_unmarked, once_in, CountOnce, rules, true≢false, same_pair, in_or}
use Rattle.cover_pick.proofs.MarkLemmas.{mark_here, mark_other}
use Rattle.cover_pick.proofs.MappingLemmas.{kind_there}

-- a source has one kind
two_kinds : (g : Aig) (n : ℕ) → IsSource g Regular n → IsSource g Parameter n → ⊥
two_kinds g n r p = let e : Some Regular ≡ Some Parameter = sym r.is ∙ p.is in cc

-- an AND node is neither the constant nor a parameter
node_not_constant : (g : Aig) (n : ℕ) (p : Pair) → n ≡ 0 → IsNode g p n → ⊥
node_not_constant g n p z is = let l : first_and g ≤ n = is.above in omega arith

node_not_parameter : (g : Aig) (n : ℕ) (p : Pair) → IsSource g Parameter n → IsNode g p n → ⊥
node_not_parameter g n p s is = omega (arith, is.above, source_below g Parameter n s)

pub leaf_inside : (g : Aig) (m : ℕ) → CanBeLeaf g m → m < node_count g
leaf_inside g m (inl r) = omega (arith, source_below g Regular m r)
leaf_inside g m (inr a) = a.1

-- a free node is no leaf of a LUT
pub free_apart : (g : Aig) (luts : List Lut) (t : Lut) (n : ℕ) → In luts t → ((m : ℕ) → In t.leaves m → CanBeLeaf g m) → IsFree g luts n → In t.leaves n → ⊥
free_apart g luts t n among are (free_constant z) i = elim (are n i) [ inl r ↦ omega (arith, r.above) | inr a ↦ omega (arith, a.0) ]
free_apart g luts t n among are (free_parameter s) i = elim (are n i) [ inl r ↦ two_kinds g n r s | inr a ↦ omega (arith, a.0, source_below g Parameter n s) ]
free_apart g luts t n among are (free_product p out is fx fy) i = out t among i

-- a node that isn't a leaf and has free parts is free
pub free_by_parts : (g : Aig) (luts : List Lut) (marks : List Bool) (n : ℕ) → ((t : Lut) → In luts t → In t.leaves n → ⊥) → ((m : ℕ) → m < n → mark_of marks m ≡ true → IsFree g luts m)
    → ((p : Pair) → IsNode g p n → (p.x.0 / 2 < n) × (p.y.0 / 2 < n)) → HasFreeParts g marks n → IsFree g luts n
free_by_parts g luts marks n out below falls (is_constant z) = free_constant z
free_by_parts g luts marks n out below falls (is_parameter s) = free_parameter s
free_by_parts g luts marks n out below falls (has_fan_ins p is ex ey) =
    let f = falls p is in free_product p out is (below (p.x.0 / 2) f.0 ex) (below (p.y.0 / 2) f.1 ey)

-- a free node has free parts, where the free fan-ins are marked
pub free_has_parts : (g : Aig) (luts : List Lut) (marks : List Bool) (n : ℕ) → ((m : ℕ) → m < n → IsFree g luts m → mark_of marks m ≡ true) → ((p : Pair) → IsNode g p n → (p.x.0 / 2 < n) × (p.y.0 / 2 < n)) → IsFree g luts n → HasFreeParts g marks n
free_has_parts g luts marks n all falls (free_constant z) = is_constant z
free_has_parts g luts marks n all falls (free_parameter s) = is_parameter s
free_has_parts g luts marks n all falls (free_product p out is fx fy) = let f = falls p is in has_fan_ins p is (all (p.x.0 / 2) f.0 fx) (all (p.y.0 / 2) f.1 fy)

-- the parts of an AND node are its fan-ins, and a regular source has none
pub parts_marked : (g : Aig) (marks : List Bool) (n : ℕ) (p : Pair) → IsNode g p n → HasFreeParts g marks n → (mark_of marks (p.x.0 / 2) ≡ true) × (mark_of marks (p.y.0 / 2) ≡ true)
parts_marked g marks n p is (is_constant z) = absurd (node_not_constant g n p z is)
parts_marked g marks n p is (is_parameter s) = absurd (node_not_parameter g n p s is)
parts_marked g marks n p is (has_fan_ins q at ex ey) = grind arith

pub no_parts : (g : Aig) (marks : List Bool) (n : ℕ) → 1 ≤ n → slice_get g.kinds (n - 1) ≡ Some Regular → HasFreeParts g marks n → ⊥
no_parts g marks n l at (is_constant z) = omega arith
no_parts g marks n l at (is_parameter s) = two_kinds g n (record { above = l; is = at }) s
no_parts g marks n l at (has_fan_ins p is ex ey) = omega (arith, l, is.above, slice_get_within g.kinds (n - 1) Regular at)

-- the nodes that lose their marks
pub length-unmarked : (marks : List Bool) (ms : List ℕ) → length (unmarked marks ms) ≡ length marks
length-unmarked marks [] = refl
length-unmarked marks (m ∷ ms) = length-unmarked (slice_set marks m false) ms ∙ length-set marks m false

inside_set : (marks : List Bool) (m : ℕ) (b : Bool) (ms : List ℕ) → ((k : ℕ) → In (m ∷ ms) k → k < length marks) → (k : ℕ) → In ms k → k < length (slice_set marks m b)
inside_set marks m b ms inside k i = omega (arith, inside k (inr i), length-set marks m b)

unmarked_were : (marks : List Bool) (ms : List ℕ) (n : ℕ) → ((k : ℕ) → In ms k → k < length marks) → mark_of (unmarked marks ms) n ≡ true → mark_of marks n ≡ true
unmarked_were marks [] n inside e = e
unmarked_were marks (m ∷ ms) n inside e =
    let h : mark_of (slice_set marks m false) n ≡ true = unmarked_were (slice_set marks m false) ms n (inside_set marks m false ms inside) e in
    elim (cases_eq n m) [
      | inl q ↦ absurd (true≢false (sym h ∙ ap (mark_of (slice_set marks m false)) q ∙ mark_here marks m false (inside m (inl refl))))
      | inr off ↦ sym (mark_other marks m n false off) ∙ h
    ]

unmarked_apart : (marks : List Bool) (ms : List ℕ) (n : ℕ) → ((k : ℕ) → In ms k → k < length marks) → mark_of (unmarked marks ms) n ≡ true → In ms n → ⊥
unmarked_apart marks [] n inside e i = i
unmarked_apart marks (m ∷ ms) n inside e (inl q) =
    true≢false (sym (unmarked_were (slice_set marks m false) ms n (inside_set marks m false ms inside) e) ∙ ap (mark_of (slice_set marks m false)) q ∙ mark_here marks m false (inside m (inl refl)))
unmarked_apart marks (m ∷ ms) n inside e (inr i) = unmarked_apart (slice_set marks m false) ms n (inside_set marks m false ms inside) e i

-- and the leaves of tables
pub length-all_unmarked : (marks : List Bool) (ts : List Lut) → length (all_unmarked marks ts) ≡ length marks
length-all_unmarked marks [] = refl
length-all_unmarked marks (t ∷ ts) = length-all_unmarked (unmarked marks t.leaves) ts ∙ length-unmarked marks t.leaves

leaves_later : (marks : List Bool) (t : Lut) (ts : List Lut) → ((u : Lut) (k : ℕ) → In (t ∷ ts) u → In u.leaves k → k < length marks) → (u : Lut) (k : ℕ) → In ts u → In u.leaves k → k < length (unmarked marks t.leaves)
leaves_later marks t ts inside u k j i = omega (arith, inside u k (inr j) i, length-unmarked marks t.leaves)

all_were : (marks : List Bool) (ts : List Lut) (n : ℕ) → ((u : Lut) (k : ℕ) → In ts u → In u.leaves k → k < length marks) → mark_of (all_unmarked marks ts) n ≡ true → mark_of marks n ≡ true
all_were marks [] n inside e = e
all_were marks (t ∷ ts) n inside e = unmarked_were marks t.leaves n (λ k i. inside t k (inl refl) i) (all_were (unmarked marks t.leaves) ts n (leaves_later marks t ts inside) e)

pub all_apart : (marks : List Bool) (ts : List Lut) (n : ℕ) → ((u : Lut) (k : ℕ) → In ts u → In u.leaves k → k < length marks) → mark_of (all_unmarked marks ts) n ≡ true → (u : Lut) → In ts u → In u.leaves n → ⊥
all_apart marks [] n inside e u j i = j
all_apart marks (t ∷ ts) n inside e u (inl q) i = grind (arith, unmarked_apart, all_were, leaves_later)
all_apart marks (t ∷ ts) n inside e u (inr j) i = all_apart (unmarked marks t.leaves) ts n (leaves_later marks t ts inside) e u j i

-- the others keep theirs
unmarked_keeps : (marks : List Bool) (ms : List ℕ) (n : ℕ) → mark_of marks n ≡ true → (In ms n → ⊥) → mark_of (unmarked marks ms) n ≡ true
unmarked_keeps marks [] n e out = e
unmarked_keeps marks (m ∷ ms) n e out = unmarked_keeps (slice_set marks m false) ms n (mark_other marks m n false (λ q. out (inl q)) ∙ e) (λ i. out (inr i))

all_keep : (marks : List Bool) (ts : List Lut) (n : ℕ) → mark_of marks n ≡ true → ((u : Lut) → In ts u → In u.leaves n → ⊥) → mark_of (all_unmarked marks ts) n ≡ true
all_keep marks [] n e out = e
all_keep marks (t ∷ ts) n e out = all_keep (unmarked marks t.leaves) ts n (unmarked_keeps marks t.leaves n e (out t (inl refl))) (λ u j. out u (inr j))

-- the free nodes up to one
pub free_start : (g : Aig) (luts : List Lut) (marks : List Bool) → ((u : Lut) (k : ℕ) → In luts u → In u.leaves k → CanBeLeaf g k) → marks ≡ all_unmarked (replicate (node_count g) true) luts → AreFreeTo g luts marks 0
free_start g luts marks are same = grind (arith, leaf_inside, length-replicate, all_apart, all_keep, get_or-replicate, free_apart, length-all_unmarked)

pub free_step : (g : Aig) (luts : List Lut) (marks : List Bool) (n : ℕ) (b : Bool) → AreNormal (first_and g) g.pairs → n < node_count g → (b ≡ true → mark_of marks n ≡ true) → (b ≡ true → HasFreeParts g marks n) → (mark_of marks n ≡ true → HasFreeParts g marks n → b ≡ true) → AreFreeTo g luts marks n
    → AreFreeTo g luts (slice_set marks n b) (n + 1)
free_step g luts marks n b normal inside own parts whole have = record {
  barred = record {
    each = λ m e. elim (cases_eq m n) [
      | inl q ↦ subst (λ k. (t : Lut) → In luts t → In t.leaves k → ⊥) (sym q) ((have.barred).each n (own (here m e q)))
      | inr off ↦ (have.barred).each m (sym (mark_other marks n m b off) ∙ e)
    ];
  };
  below = λ m l e. elim (cases_eq m n) [
    | inl q ↦ subst (λ k. IsFree g luts k) (sym q) (free_by_parts g luts marks n ((have.barred).each n (own (here m e q))) have.below falls (parts (here m e q)))
    | inr off ↦ have.below m (lower m l off) (sym (mark_other marks n m b off) ∙ e)
  ];
  all = λ m l f. elim (cases_eq m n) [
    | inl q ↦ ap (mark_of (slice_set marks n b)) q ∙ mark_here marks n b (omega (arith, have.long)) ∙ kept (subst (λ k. IsFree g luts k) q f)
    | inr off ↦ mark_other marks n m b off ∙ have.all m l f
  ];
  long = length-set marks n b ∙ have.long;
}
  where
    here : (m : ℕ) → mark_of (slice_set marks n b) m ≡ true → m ≡ n → b ≡ true
    here m e q = sym (mark_here marks n b (omega (arith, have.long))) ∙ ap (mark_of (slice_set marks n b)) (sym q) ∙ e

    lower : (m : ℕ) → m < n + 1 → (m ≡ n → ⊥) → m < n
    lower m l off = elim (cases_lt m n) [ inl a ↦ a | inr a ↦ absurd (off (omega arith)) ]

    falls : (p : Pair) → IsNode g p n → (p.x.0 / 2 < n) × (p.y.0 / 2 < n)
    falls p is =
        let norm : IsNormal n p = node_normal g n p normal is in
        let ordered : p.x.0 / 2 < p.y.0 / 2 = norm.ordered in
        let under : p.y.0 / 2 < n = norm.below in
        (omega arith, under)

    kept : IsFree g luts n → b ≡ true
    kept f = whole (have.all n inside f) (free_has_parts g luts marks n (λ m l h. have.all m (omega arith) h) falls f)

-- all nodes
pub free_end : (g : Aig) (luts : List Lut) (marks : List Bool) (n : ℕ) → node_count g ≤ n → AreFreeTo g luts marks n → AreFree g luts marks
free_end g luts marks n all have = search (rules, cases_lt, true≢false, get_or_past)

-- the fan-ins of a free AND node are free
pub free_falls : (g : Aig) (luts : List Lut) (n : ℕ) (p : Pair) → IsNode g p n → IsFree g luts n → IsFree g luts (p.x.0 / 2) × IsFree g luts (p.y.0 / 2)
free_falls g luts n p is (free_constant z) = absurd (node_not_constant g n p z is)
free_falls g luts n p is (free_parameter s) = absurd (node_not_parameter g n p s is)
free_falls g luts n p is (free_product q out at fx fy) = grind arith

-- so the marks of the free nodes are of nodes that can be counted once
pub free_once : (g : Aig) (luts : List Lut) (marks : List Bool) → AreNormal (first_and g) g.pairs → ((u : Lut) (k : ℕ) → In luts u → In u.leaves k → CanBeLeaf g k) → AreFree g luts marks → ((n : ℕ) → n < node_count g → IsFree g luts n → mark_of marks n ≡ true)
    → CountOnce g luts marks
free_once g luts marks normal are only all = search (rules, free_falls, node_normal, slice_get_within, free_apart)

free_below : (g : Aig) (luts : List Lut) (n : ℕ) → IsFree g luts n → n < node_count g
free_below g luts n (free_constant z) = omega arith
free_below g luts n (free_parameter s) = omega (arith, source_below g Parameter n s)
free_below g luts n (free_product p out is fx fy) = omega (arith, is.above, slice_get_within g.pairs (n - first_and g) p is.is)

pub free_marked : (g : Aig) (luts : List Lut) (marks : List Bool) → ((n : ℕ) → n < node_count g → IsFree g luts n → mark_of marks n ≡ true) → (n : ℕ) → IsFree g luts n → once_in marks n
free_marked g luts marks all n f = all n (free_below g luts n f) f

-- Whether a node is free is decided.
some_leaf : (luts : List Lut) (n : ℕ) → ((t : Lut) → In luts t → In t.leaves n → ⊥) ⊎ ((t : Lut) × In luts t × In t.leaves n)
some_leaf [] n = inl (λ t j i. absurd j)
some_leaf (t ∷ ts) n = elim (in_or t.leaves n) [
  | inl i ↦ inr (t, inl refl, i)
  | inr off ↦ elim (some_leaf ts n) [
    | inl out ↦ inl (λ u j i. elim j [ inl e ↦ off (subst (λ (v : Lut). In v.leaves n) e i) | inr k ↦ out u k i ])
    | inr r ↦ inr (r.0, inr r.1, r.2)
  ]
]

no_leaf : (g : Aig) (luts : List Lut) (n : ℕ) (p : Pair) → IsNode g p n → (t : Lut) → In luts t → In t.leaves n → IsFree g luts n → ⊥
no_leaf g luts n p is t j i (free_constant z) = node_not_constant g n p z is
no_leaf g luts n p is t j i (free_parameter s) = node_not_parameter g n p s is
no_leaf g luts n p is t j i (free_product q out at gx gy) = out t j i

node_decided : (g : Aig) (luts : List Lut) (n : ℕ) (p : Pair) → IsNode g p n → IsFree g luts (p.x.0 / 2) ⊎ (IsFree g luts (p.x.0 / 2) → ⊥) → IsFree g luts (p.y.0 / 2) ⊎ (IsFree g luts (p.y.0 / 2) → ⊥) → IsFree g luts n ⊎ (IsFree g luts n → ⊥)
node_decided g luts n p is x y = elim x [
  | inr bar ↦ inr (λ f. bar (free_falls g luts n p is f).0)
  | inl fx ↦ elim y [
    | inr bar ↦ inr (λ f. bar (free_falls g luts n p is f).1)
    | inl fy ↦ elim (some_leaf luts n) [ inl out ↦ inl (free_product p out is fx fy) | inr r ↦ inr (λ f. no_leaf g luts n p is r.0 r.1 r.2 f) ]
  ]
]

regular_not : (g : Aig) (luts : List Lut) (n : ℕ) → IsSource g Regular n → IsFree g luts n → ⊥
regular_not g luts n r (free_constant z) = omega (arith, r.above)
regular_not g luts n r (free_parameter s) = two_kinds g n r s
regular_not g luts n r (free_product p out is fx fy) = omega (arith, is.above, source_below g Regular n r)

none_not : (g : Aig) (luts : List Lut) (n : ℕ) → first_and g ≤ n → pair_of g n ≡ None → IsFree g luts n → ⊥
none_not g luts n a e (free_constant z) = omega arith
none_not g luts n a e (free_parameter s) = omega (arith, source_below g Parameter n s)
none_not g luts n a e (free_product p out is fx fy) = none-some p (sym e ∙ is.is)

pair_decided : (g : Aig) (luts : List Lut) (n : ℕ) → AreNormal (first_and g) g.pairs → ((m : ℕ) → m < n → IsFree g luts m ⊎ (IsFree g luts m → ⊥)) → (o : Option Pair) → first_and g ≤ n → pair_of g n ≡ o → IsFree g luts n ⊎ (IsFree g luts n → ⊥)
pair_decided g luts n normal below None a e = inr (none_not g luts n a e)
pair_decided g luts n normal below (Some p) a e =
    let is : IsNode g p n = record { above = a; is = e } in
    let norm : IsNormal n p = node_normal g n p normal is in
    node_decided g luts n p is (below (p.x.0 / 2) (omega (arith, norm.ordered, norm.below))) (below (p.y.0 / 2) norm.below)

free_to : (g : Aig) (luts : List Lut) → AreNormal (first_and g) g.pairs → (f n : ℕ) → n < f → IsFree g luts n ⊎ (IsFree g luts n → ⊥)
free_to g luts normal zero n l = absurd (omega arith)
free_to g luts normal (suc f) n l = elim (cases_eq n 0) [
  | inl z ↦ inl (free_constant z)
  | inr d ↦ elim (cases_lt n (first_and g)) [
    | inl s ↦ elim (kind_there g n d s) [ inl r ↦ inr (regular_not g luts n r) | inr r ↦ inl (free_parameter r) ]
    | inr a ↦ pair_decided g luts n normal (λ m k. free_to g luts normal f m (omega arith)) (pair_of g n) a refl
  ]
]

pub free_or_not : (g : Aig) (luts : List Lut) → AreNormal (first_and g) g.pairs → (n : ℕ) → IsFree g luts n ⊎ (IsFree g luts n → ⊥)
free_or_not g luts normal n = free_to g luts normal (suc n) n (omega arith)
