-- What labels that are least heights tell of the nodes.
use Rattle.flow_cert.proofs.Common.{◌≡◌, ℕ, ◌+◌, ◌/◌, ◌<◌, ◌≤◌, List, [], ◌∷◌, ◌++◌, length, map, reverse, Some, refl, sym, ap, ◌∙◌, subst, inl, inr, eqb, eqb-false, arith, cases_lt, choose, reverse-append, slice_get, In, In-map, Aig, first_and, node_count, IsAnd, IsNode, AreNormal, Pair, fan_ins, Blocks, IsCut, height, AreLeastHeights, IsFanIn, first, second, ArePathsTo, IsLive, AreKnownTo, PathValue, path_count, IsDownTo, AreShowing, rules, length-map, slice_get-map, height_none, label_rises}
use Rattle.std.specs.Option.{option_map}
use Rattle.flow_cert.proofs.GraphLemmas.{fan_in_below, free_or_live}

module _ (g : Aig) (k : ℕ) (label : ℕ → ℕ) (are : AreLeastHeights g k label) where
  -- only AND nodes have a label above 0
  pub high_and : (n : ℕ) → 1 ≤ label n → IsAnd g n
  high_and n l = search (rules, cases_lt)

  module _ (normal : AreNormal (first_and g) g.pairs) where
    -- the search for paths may use them
    pub known_least : (n : ℕ) → n ≤ node_count g → AreKnownTo g n label
    known_least n top = record {
      sources = are.sources;
      rising = λ m v l f. label_rises g normal k label are m v f (let b : v < node_count g = omega arith in b) (fan_in_below g m v normal f);
      free = λ m l and z. let c = are.met m and in subst (λ x. Blocks g x m) (height_none label c.0 (sym c.2 ∙ z)) c.1.blocks;
    }

    -- a fan-in of a live AND node is live
    pub second_live : (v : ℕ) (p : Pair) → IsNode g p v → IsAnd g v → 1 ≤ label v → (IsLive g label (p.x.0 / 2) → ⊥) → IsLive g label (p.y.0 / 2)
    second_live v p node and high never =
        let known : AreKnownTo g (node_count g) label = known_least (node_count g) (omega arith) in
        let x_below : p.x.0 / 2 < v = fan_in_below g (p.x.0 / 2) v normal (first p node refl) in
        let y_below : p.y.0 / 2 < v = fan_in_below g (p.y.0 / 2) v normal (second p node refl) in
        let inside : v < node_count g = and.1 in
        elim (free_or_live g label [] (p.y.0 / 2) (node_count g) known (omega arith) (omega arith)) [
          | inr l ↦ l
          | inl y ↦ elim (free_or_live g label [] (p.x.0 / 2) (node_count g) known (omega arith) (omega arith)) [
            | inr l ↦ absurd (never l)
            | inl x ↦ absurd (
                let cut : IsCut g k v [] = record { ascending = tt; few = omega arith; below = λ m i. absurd i; blocks = fan_ins p node x y } in
                let l : label v ≤ height label [] = are.least v [] and cut in omega arith)
          ]
        ]

pub down_push : (g : Aig) (n v w : ℕ) (nodes : List ℕ) → IsFanIn g w v → IsDownTo g n v nodes → IsDownTo g n w (nodes ++ w ∷ [])
down_push g n v w nodes f d = record { rest = v ∷ d.rest; is = reverse_push nodes w ∙ ap (λ xs. w ∷ xs) d.is; climbs = (f, d.climbs) }
  where
    reverse_push : (xs : List ℕ) (x : ℕ) → reverse (xs ++ x ∷ []) ≡ x ∷ reverse xs
    reverse_push xs x = reverse-append xs (x ∷ [])

-- how many paths show a claim
pub count_one : (k claim : ℕ) → claim ≡ 1 → path_count k claim ≡ 1
count_one k claim e = choose (λ v. v ≡ 1) (eqb claim 1) 1 (k + 1) (λ _. refl) (λ f. absurd (eqb-false claim 1 f e))

nodes_at : (ps : List PathValue) (lists : List (List ℕ)) (i : ℕ) (p : PathValue) → map (λ (x : PathValue). x.nodes) ps ≡ lists → slice_get ps i ≡ Some p → slice_get lists i ≡ Some p.nodes
nodes_at ps lists i p e at = ap (λ xs. slice_get xs i) (sym e) ∙ (slice_get-map (λ (x : PathValue). x.nodes) ps i ∙ ap (option_map (λ (x : PathValue). x.nodes)) at)

-- paths to the node show its label
pub shown : (g : Aig) (k n : ℕ) (label : ℕ → ℕ) (ps : List PathValue) (lists : List (List ℕ)) → map (λ (x : PathValue). x.nodes) ps ≡ lists → ArePathsTo g n (label n) label lists → length lists ≡ k + 1 → AreShowing g k label n ps
shown g k n label ps lists e are count = record {
  count = sym (length-map ps (λ (x : PathValue). x.nodes)) ∙ (ap length e ∙ count);
  each = λ p i. are.paths p.nodes (subst (λ xs. In xs p.nodes) e (In-map (λ (x : PathValue). x.nodes) ps p i));
  apart = λ i j m p q l a b x y ne. are.apart i j m p.nodes q.nodes l (nodes_at ps lists i p e a) (nodes_at ps lists j q e b) x y ne;
}
