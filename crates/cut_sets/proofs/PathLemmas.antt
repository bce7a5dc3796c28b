-- The nodes of a path are no higher than its end, and a set that blocks this has one of them.
use Rattle.cut_sets.proofs.Common.{◌≡◌, ℕ, zero, suc, ◌+◌, ◌-◌, ◌/◌, ◌<◌, ◌≤◌, List, [], ◌∷◌, length, get_or, refl, sym, ap, ◌∙◌, subst, inl, inr, ◌⊎◌, arith, Aig, first_and, IsSource, IsNode, IsNormal, AreNormal, Regular, Parameter, Pair, source_below, node_normal, same_pair, In, Blocks, member, constant, parameter, fan_ins, IsFanIn, first, second, Climbs, IsPath}
use Rattle.cut_sets.proofs.BlockLemmas.{regular_blocked}

-- a node with a fan-in has a pair
pub fan_in_above : (g : Aig) (m n : ℕ) → IsFanIn g m n → first_and g ≤ n
fan_in_above g m n (first p is e) = is.above
fan_in_above g m n (second p is e) = is.above

-- a fan-in of a blocked node is blocked
fan_in_blocked : (g : Aig) (c : List ℕ) (m n : ℕ) (p : Pair) → IsNode g p n → Blocks g c (p.x.0 / 2) → Blocks g c (p.y.0 / 2) → IsFanIn g m n → Blocks g c m
fan_in_blocked g c m n p is x y (first q at e) = subst (λ l. Blocks g c l) (sym (e ∙ ap (λ (r : Pair). r.x.0 / 2) (same_pair g q p n at is))) x
fan_in_blocked g c m n p is x y (second q at e) = subst (λ l. Blocks g c l) (sym (e ∙ ap (λ (r : Pair). r.y.0 / 2) (same_pair g q p n at is))) y

-- what blocks a node has the node, or blocks its fan-ins
pub blocked_below : (g : Aig) (c : List ℕ) {m n : ℕ} → IsFanIn g m n → Blocks g c n → In c n ⊎ Blocks g c m
blocked_below g c f (member i) = inl i
blocked_below g c {m} {n} f (constant e) = absurd (let a : first_and g ≤ n = fan_in_above g m n f in omega arith)
blocked_below g c {m} {n} f (parameter s) = absurd (let a : first_and g ≤ n = fan_in_above g m n f in let b : n < first_and g = source_below g Parameter n s in omega arith)
blocked_below g c {m} {n} f (fan_ins p is x y) = inr (fan_in_blocked g c m n p is x y f)

-- the list has one of the set
pub record Meets (c xs : List ℕ) : Type 0 where
  pub at : ℕ
  pub in_set : In c at
  pub in_list : In xs at

-- on the way up from a node that is blocked only where the list so far has one of the set
climb_meets : (g : Aig) (c all : List ℕ) (m : ℕ) (ms : List ℕ) (n : ℕ) → (Blocks g c m → Meets c all) → ((x : ℕ) → In ms x → In all x) → Climbs g m ms n → Blocks g c n → Meets c all
climb_meets g c all m [] n from part e b = from (subst (λ l. Blocks g c l) (sym e) b)
climb_meets g c all m (x ∷ xs) n from part climbs b = grind (arith, blocked_below, climb_meets g c all x xs n (λ bx. elim (blocked_below g c climbs.0 bx) [ inl i ↦ record { at = x; in_set = i; in_list = part x (inl refl) } | inr bm ↦ from bm ]) (λ y i. part y (inr i)) climbs.1 b)

-- A set that blocks a node has a node of each path to it.
pub path_meets : (g : Aig) (c : List ℕ) (n : ℕ) (p : List ℕ) → IsPath g n p → Blocks g c n → Meets c p
path_meets g c n [] path b = absurd path
path_meets g c n (m ∷ ms) path b =
    climb_meets g c (m ∷ ms) m ms n (λ bm. record { at = m; in_set = regular_blocked g c path.0 bm; in_list = inl refl }) (λ x i. inr i) path.1 b

-- a fan-in node is lower, so no node of a path is higher than its end
pub fan_in_below : (g : Aig) (m n : ℕ) → AreNormal (first_and g) g.pairs → IsFanIn g m n → m < n
fan_in_below g m n normal (first p is e) = let k : IsNormal n p = node_normal g n p normal is in let a : p.y.0 / 2 < n = k.below in let b : p.x.0 / 2 < p.y.0 / 2 = k.ordered in omega arith
fan_in_below g m n normal (second p is e) = let k : IsNormal n p = node_normal g n p normal is in let a : p.y.0 / 2 < n = k.below in omega arith

climbs_below : (g : Aig) (m : ℕ) (ms : List ℕ) (n x : ℕ) → AreNormal (first_and g) g.pairs → Climbs g m ms n → In (m ∷ ms) x → (x ≤ n) × (m ≤ n)
climbs_below g m [] n x normal c (inl e) = let q : m ≡ n = c in (omega arith, omega arith)
climbs_below g m [] n x normal c (inr b) = absurd b
climbs_below g m (y ∷ ys) n x normal c (inl e) = let r : y ≤ n = (climbs_below g y ys n y normal c.1 (inl refl)).0 in let l : m < y = fan_in_below g m y normal c.0 in (omega arith, omega arith)
climbs_below g m (y ∷ ys) n x normal c (inr i) = let r = climbs_below g y ys n x normal c.1 i in let s : y ≤ n = r.1 in let l : m < y = fan_in_below g m y normal c.0 in (r.0, omega arith)

pub path_below : (g : Aig) (n : ℕ) (p : List ℕ) (x : ℕ) → AreNormal (first_and g) g.pairs → IsPath g n p → In p x → x ≤ n
path_below g n [] x normal path i = absurd path
path_below g n (m ∷ ms) x normal path i = (climbs_below g m ms n x normal path.1 i).0

-- the edges of a climb, and a climb of its edges
climbs_edge : (g : Aig) (m : ℕ) (ms : List ℕ) (n j : ℕ) → Climbs g m ms n → j < length ms → IsFanIn g (get_or (m ∷ ms) j 0) (get_or (m ∷ ms) (suc j) 0)
climbs_edge g m [] n j c l = absurd (omega arith)
climbs_edge g m (x ∷ xs) n zero c l = c.0
climbs_edge g m (x ∷ xs) n (suc j) c l = climbs_edge g x xs n j c.1 (omega arith)

climbs_last : (g : Aig) (m : ℕ) (ms : List ℕ) (n : ℕ) → Climbs g m ms n → get_or (m ∷ ms) (length ms) 0 ≡ n
climbs_last g m [] n c = c
climbs_last g m (x ∷ xs) n c = climbs_last g x xs n c.1

climbs_made : (g : Aig) (m : ℕ) (ms : List ℕ) (n : ℕ) → ((j : ℕ) → j < length ms → IsFanIn g (get_or (m ∷ ms) j 0) (get_or (m ∷ ms) (suc j) 0)) → get_or (m ∷ ms) (length ms) 0 ≡ n → Climbs g m ms n
climbs_made g m [] n edges e = e
climbs_made g m (x ∷ xs) n edges e = (edges 0 (omega arith), climbs_made g x xs n (λ j l. edges (suc j) (omega arith)) e)

pub path_made : (g : Aig) (n : ℕ) (p : List ℕ) → 0 < length p → IsSource g Regular (get_or p 0 0) → ((j : ℕ) → j + 1 < length p → IsFanIn g (get_or p j 0) (get_or p (j + 1) 0)) → get_or p (length p - 1) 0 ≡ n → IsPath g n p
path_made g n [] some s edges e = absurd (omega arith)
path_made g n (m ∷ ms) some s edges e = (s, climbs_made g m ms n (λ j l. subst (λ i. IsFanIn g (get_or (m ∷ ms) j 0) (get_or (m ∷ ms) i 0)) (let q : j + 1 ≡ suc j = omega arith in q) (edges j (omega arith))) (ap (λ i. get_or (m ∷ ms) i 0) (let q : length ms ≡ length (m ∷ ms) - 1 = omega arith in q) ∙ e))

pub path_edge : (g : Aig) (n : ℕ) (p : List ℕ) (j : ℕ) → IsPath g n p → j + 1 < length p → IsFanIn g (get_or p j 0) (get_or p (j + 1) 0)
path_edge g n [] j path l = absurd path
path_edge g n (m ∷ ms) j path l = subst (λ i. IsFanIn g (get_or (m ∷ ms) j 0) (get_or (m ∷ ms) i 0)) (let q : suc j ≡ j + 1 = omega arith in q) (climbs_edge g m ms n j path.1 (omega arith))

pub path_end : (g : Aig) (n : ℕ) (p : List ℕ) → IsPath g n p → get_or p (length p - 1) 0 ≡ n
path_end g n [] path = absurd path
path_end g n (m ∷ ms) path = ap (λ i. get_or (m ∷ ms) i 0) (let q : length (m ∷ ms) - 1 ≡ length ms = omega arith in q) ∙ climbs_last g m ms n path.1

-- a fan-in node is one of the pair's
pub fan_in_cases : (g : Aig) (m n : ℕ) (p : Pair) → IsNode g p n → IsFanIn g m n → (m ≡ p.x.0 / 2) ⊎ (m ≡ p.y.0 / 2)
fan_in_cases g m n p is (first q at e) = inl (e ∙ ap (λ (r : Pair). r.x.0 / 2) (same_pair g q p n at is))
fan_in_cases g m n p is (second q at e) = inr (e ∙ ap (λ (r : Pair). r.y.0 / 2) (same_pair g q p n at is))
