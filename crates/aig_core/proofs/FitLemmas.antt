-- One list of values fits a graph under the values of its sources, that of all nodes in order; the first of those that fit a larger graph fit the smaller one.
use Rattle.aig_core.proofs.Common.{◌≡◌, ℕ, zero, suc, ◌+◌, ◌-◌, ◌/◌, ◌<◌, ◌≤◌, Bool, false, ◌&&◌, List, ◌∷◌, length, take, get_or, Some, sym, ap, ◌∙◌, subst, inl, inr, arith, length-append, slice_get, cases_lt, ext_get_or, get_or-take, length-take, slice_get_within, get_left, Pair, Aig, IsNormal, AreNormal, first_and, node_count, with_pairs, in_phase, node_value, value_of, FitsGraph, HasOneFit}
use Rattle.aig_core.proofs.GrowthLemmas.{Extends}
use Rattle.aig_core.proofs.NodeLemmas.{node_normal, node_at}
use Rattle.aig_core.proofs.ValueLemmas.{values_of, values_old, values_node, length-values_from}

-- the product of two literals is the same under values that agree below their node
product_agrees : (vs ws : List Bool) (n : ℕ) (p : Pair) → IsNormal n p → ((m : ℕ) → m < n → node_value vs m ≡ node_value ws m) → (value_of vs p.x.0 && value_of vs p.y.0) ≡ (value_of ws p.x.0 && value_of ws p.y.0)
product_agrees vs ws n p normal same =
    let o : p.x.0 / 2 < p.y.0 / 2 = normal.ordered in
    let b : p.y.0 / 2 < n = normal.below in
    ap (λ v. in_phase p.x.0 v && value_of vs p.y.0) (same (p.x.0 / 2) (omega arith))
    ∙ ap (λ v. value_of ws p.x.0 && in_phase p.y.0 v) (same (p.y.0 / 2) b)

-- values that fit agree at each node
fits_agree : (g : Aig) (sources vs ws : List Bool) → AreNormal (first_and g) g.pairs → FitsGraph g sources vs → FitsGraph g sources ws → (bound n : ℕ) → n < bound → n < node_count g → node_value vs n ≡ node_value ws n
fits_agree g sources vs ws normal f h zero n l inside = absurd (omega arith)
fits_agree g sources vs ws normal f h (suc bound) zero l inside = f.constant ∙ sym h.constant
fits_agree g sources vs ws normal f h (suc bound) (suc n) l inside = elim (cases_lt (suc n) (first_and g)) [
  | inl source ↦ f.source (suc n) (omega arith) source ∙ sym (h.source (suc n) (omega arith) source)
  | inr above ↦
      let p = node_at g (suc n) above inside in
      f.node (suc n) p.0 p.1
      ∙ product_agrees vs ws (suc n) p.0 (node_normal g (suc n) p.0 normal p.1) (λ m b. fits_agree g sources vs ws normal f h bound m (omega arith) (omega arith))
      ∙ sym (h.node (suc n) p.0 p.1)
]

-- a list behind the constant's value
pub behind_constant : (xs : List Bool) (n : ℕ) → 1 ≤ n → get_or (false ∷ xs) n false ≡ get_or xs (n - 1) false
behind_constant xs zero h = absurd (omega arith)
behind_constant xs (suc n) h = ap (λ m. get_or xs m false) (let e : n ≡ suc n - 1 = omega arith in e)

-- the values of all nodes in order fit
pub fits_values_of : (g : Aig) (sources : List Bool) → AreNormal (first_and g) g.pairs → length sources ≡ length g.kinds → FitsGraph g sources (values_of g sources)
fits_values_of g sources normal given = record {
  given = given;
  count = omega (arith, length-values_from (false ∷ sources) g.pairs);
  constant = values_old (false ∷ sources) g.pairs 0 (omega arith);
  source = λ n above below. values_old (false ∷ sources) g.pairs n (omega arith) ∙ behind_constant sources n above;
  node = λ n p is.
      let above : first_and g ≤ n = is.above in
      let normal' : IsNormal n p = node_normal g n p normal is in
      let o : p.x.0 / 2 < p.y.0 / 2 = normal'.ordered in
      let b : p.y.0 / 2 < n = normal'.below in
      let e : length (false ∷ sources) + (n - first_and g) ≡ n = omega arith in
      subst (λ m. node_value (values_of g sources) m ≡ (value_of (values_of g sources) p.x.0 && value_of (values_of g sources) p.y.0)) e
      (values_node (false ∷ sources) g.pairs (n - first_and g) p is.is (omega arith) (omega arith));
}

-- and no others do
pub is_values_of : (g : Aig) (sources values : List Bool) → AreNormal (first_and g) g.pairs → FitsGraph g sources values → values ≡ values_of g sources
is_values_of g sources values normal fits =
    let fits' : FitsGraph g sources (values_of g sources) = fits_values_of g sources normal fits.given in
    let c : length values ≡ node_count g = fits.count in
    ext_get_or false values (values_of g sources) (c ∙ sym fits'.count) (λ i l. fits_agree g sources values (values_of g sources) normal fits fits' (suc i) i (omega arith) (omega arith))

pub one_fit : (g : Aig) (sources : List Bool) → AreNormal (first_and g) g.pairs → length sources ≡ length g.kinds → HasOneFit g sources
one_fit g sources normal given = record { values = values_of g sources; fits = fits_values_of g sources normal given; only = λ others f. is_values_of g sources others normal f }

-- the first values of a list
pub value_of-take : (n : ℕ) (values : List Bool) (lit : ℕ) → lit / 2 < n → value_of (take n values) lit ≡ value_of values lit
value_of-take n values lit l = ap (in_phase lit) (get_or-take n values (lit / 2) false l)

-- those that fit a larger graph fit the smaller one
pub fits_front : (g : Aig) (ps : List Pair) (sources values : List Bool) → AreNormal (first_and g) g.pairs → Extends g.pairs ps → FitsGraph (with_pairs g ps) sources values → FitsGraph g sources (take (node_count g) values)
fits_front g ps sources values normal e fits =
    let more : length ps ≡ length g.pairs + length e.more = ap length e.is ∙ length-append g.pairs e.more in
    let all : length values ≡ first_and g + length ps = fits.count in
    record {
      given = fits.given;
      count = omega (arith, length-take (node_count g) values);
      constant = get_or-take (node_count g) values 0 false (omega arith) ∙ fits.constant;
      source = λ n above below. get_or-take (node_count g) values n false (omega arith) ∙ fits.source n above below;
      node = λ n p is.
          let normal' : IsNormal n p = node_normal g n p normal is in
          let o : p.x.0 / 2 < p.y.0 / 2 = normal'.ordered in
          let b : p.y.0 / 2 < n = normal'.below in
          let i : n - first_and g < length g.pairs = slice_get_within g.pairs (n - first_and g) p is.is in
          let above : first_and g ≤ n = is.above in
          get_or-take (node_count g) values n false (omega arith)
          ∙ fits.node n p (record { above = is.above; is = subst (λ qs. slice_get qs (n - first_and g) ≡ Some p) (sym e.is) (get_left g.pairs e.more (n - first_and g) p is.is) })
          ∙ sym (ap (λ v. v && value_of (take (node_count g) values) p.y.0) (value_of-take (node_count g) values p.x.0 (omega arith))
          ∙ ap (λ v. value_of values p.x.0 && v) (value_of-take (node_count g) values p.y.0 (omega arith)));
    }
