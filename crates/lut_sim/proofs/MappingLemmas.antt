-- A mapping over a graph whose sources have a shape can be played.
use Rattle.lut_sim.proofs.Common.{◌≡◌, ℕ, ◌/◌, ◌%◌, ◌<◌, ◌≤◌, true, eqb, List, length, sym, subst, inl, inr, ◌⊎◌, arith, and_from, eq-eqb, In, lits_of, Lut, TemplateValue, IsMapping, IsTableOf, source, free, node, IsPlain, HasLut, Shape, is_regular, is_plain, last_source, IsPlayable, HasValue}
use Rattle.aig_core.specs.Aig.{Aig, first_and, IsAnd}
use Rattle.lut_sim.specs.GraphShape.{HasShape}
use Rattle.lut_sim.proofs.RoomLemmas.{regular_within}

-- an AND node is above all sources
and_above : (g : Aig) (shape : Shape) (m : ℕ) → HasShape g shape → IsAnd g m → last_source shape < m
and_above g shape m has a = let l : first_and g ≤ m = a.0 in let c : length g.kinds ≡ last_source shape = has.count in omega arith

-- what a table's leaf is
pub data IsLeafOf (g : Aig) (shape : Shape) (t : Lut) (m : ℕ) : Type 0 where
  at_regular : is_regular shape m ≡ true → IsLeafOf g shape t m
  at_node : IsAnd g m → m < t.lit.0 / 2 → IsLeafOf g shape t m

-- a leaf of a table that maps the graph is a regular source or an AND node below the table's node
leaf_is : (g : Aig) (k : ℕ) (shape : Shape) (t : Lut) (m : ℕ) → HasShape g shape → IsTableOf g k t → In t.leaves m → IsLeafOf g shape t m
leaf_is g k shape t m has (source s odd e) i = elim (subst (λ c. In c m) e i) [
  | inl q ↦ at_regular (subst (λ n. is_regular shape n ≡ true) (sym q) (has.from_regular (t.lit.0 / 2) s))
  | inr q ↦ absurd q
]
leaf_is g k shape t m has (free z e) i = absurd (subst (λ c. In c m) e i)
leaf_is g k shape t m has (node a c) i = elim ((c.below m i).1) [
  | inl r ↦ at_regular (has.from_regular m r)
  | inr n ↦ at_node n (c.below m i).0
]

-- in terms of the shape, it is a regular source or stands above all sources
leaf_side : (g : Aig) (shape : Shape) (t : Lut) (m : ℕ) → HasShape g shape → IsLeafOf g shape t m → (is_regular shape m ≡ true) ⊎ (last_source shape < m)
leaf_side g shape t m has (at_regular r) = inl r
leaf_side g shape t m has (at_node a b) = inr (and_above g shape m has a)

-- a leaf above all sources is an AND node below the table's
leaf_node : (g : Aig) (shape : Shape) (t : Lut) (m : ℕ) → IsLeafOf g shape t m → last_source shape < m → IsAnd g m × (m < t.lit.0 / 2)
leaf_node g shape t m (at_regular r) h = absurd (let w : m ≤ last_source shape = regular_within shape m r in omega arith)
leaf_node g shape t m (at_node a b) h = (a, b)

-- the positive literal of a regular source is plain
plain_is : (g : Aig) (shape : Shape) (l : ℕ) → HasShape g shape → IsPlain g l → is_plain shape l ≡ true
plain_is g shape l has p = and_from (eqb (l % 2) 0) (is_regular shape (l / 2)) (eq-eqb (l % 2) 0 p.positive) (has.from_regular (l / 2) p.source)

-- a root that the tables map has a value
root_value : (c : TemplateValue) (g : Aig) (shape : Shape) (l : ℕ) → HasShape g shape → IsPlain g l ⊎ HasLut c.luts l → HasValue c shape l
root_value c g shape l has (inl p) = inl (plain_is g shape l has p)
root_value c g shape l has (inr t) = inr t

-- a mapping over a graph of a shape can be played
pub mapping_playable : (c : TemplateValue) (g : Aig) (k : ℕ) (roots : List ℕ) (shape : Shape) → IsMapping g k roots c.luts c.bits → HasShape g shape → length c.next ≡ shape.latches
    → ((l : ℕ) → In (lits_of c.outputs) l → In roots l) → ((l : ℕ) → In (lits_of c.next) l → In roots l) → IsPlayable c shape
mapping_playable c g k roots shape m has latches outs nexts = record {
  latches = latches;
  leaves = λ t n i j. leaf_side g shape t n has (leaf_is g k shape t n has (m.table t i) j);
  below = λ t n i j h. (leaf_node g shape t n (leaf_is g k shape t n has (m.table t i) j) h).1;
  fed = λ t n i j h. m.leaf t n i j (leaf_node g shape t n (leaf_is g k shape t n has (m.table t i) j) h).0;
  ascending = m.ascending;
  bases = m.bases;
  sum = m.sum;
  outputs = λ l i. root_value c g shape l has (m.root l (outs l i));
  next = λ l i. root_value c g shape l has (m.root l (nexts l i));
}
