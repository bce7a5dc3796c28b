-- The bit of a node that the leaves block: there is one, and no other; where each leaf's digit is its value, it is the node's value in the graph.
use Rattle.bit_fun.proofs.Common.{◌≡◌, ℕ, zero, suc, ◌-◌, ◌/◌, ◌<◌, ◌≤◌, Bool, false, ◌&&◌, List, [], ◌∷◌, length, take, get_or, Some, refl, sym, ap, ◌∙◌, subst, inl, inr, arith, slice_get, none-some, same_Some, slice_get_within, slice_get-get_or, get_or_from_slice_get, In, digit, IsAscending, In-get, place_in, in_or, Parameter, Pair, Aig, first_and, IsSource, IsNode, in_phase, node_value, FitsGraph, Blocks, member, blocks_constant, blocks_parameter, fan_ins, CanBeLeaf, param_count, IsParam, ◌+◌, true, leb, ltb, ◌++◌, cases_lt, le-leb, lt-ltb, and_from, or_right, or_left, get_or-append-add, get_or-append, Kind, Regular, at_within, Shape, is_regular, last_source, IsInputOrLatch, input, latch, either_side, rules}
use Rattle.bit_fun.specs.BitFunction.{NodeBit, leaf, constant, parameter, node}
use Rattle.lut_sim.specs.GraphShape.{HasShape, AreSourceValues}

-- The place of each parameter: among values for all sources, and in a shape.
-- each parameter has its value among those of all sources
pub record HaveParams (g : Aig) (params sources : List Bool) : Type 0 where
  pub each : (j n : ℕ) → IsParam g j n → get_or sources (n - 1) false ≡ get_or params j false

pub regular_no_parameter : {P : Type 0} → Some Regular ≡ Some Parameter → P
regular_no_parameter e = absurd (let wrong : ⊥ = cc in wrong)

-- the same kind of source can't be both
pub one_kind : (g : Aig) (n : ℕ) → IsSource g Regular n → IsSource g Parameter n → ⊥
one_kind g n r p = regular_no_parameter (sym r.is ∙ p.is)

-- a parameter's place is below their number
pub place_below : (kinds : List Kind) (i : ℕ) → slice_get kinds i ≡ Some Parameter → param_count (take i kinds) < param_count kinds
place_below [] i at = absurd (none-some Parameter at)
place_below (Regular ∷ kinds) zero at = regular_no_parameter at
place_below (Regular ∷ kinds) (suc i) at = place_below kinds i at
place_below (Parameter ∷ kinds) zero at = omega arith
place_below (Parameter ∷ kinds) (suc i) at = let l : param_count (take i kinds) < param_count kinds = place_below kinds i at in omega arith

pub param_below : (g : Aig) (j n : ℕ) → IsParam g j n → j < param_count g.kinds
param_below g j n is = subst (λ k. k < param_count g.kinds) is.place (place_below g.kinds (n - 1) (is.source).is)

-- behind some regular sources, the parameters before a place are counted by that place
count_to : (kinds : List Kind) (r p i : ℕ) → ((k : ℕ) → k < r → k < length kinds → slice_get kinds k ≡ Some Regular)
    → ((k : ℕ) → r ≤ k → k < r + p → k < length kinds → slice_get kinds k ≡ Some Parameter) → r ≤ i → i ≤ r + p → i ≤ length kinds → param_count (take i kinds) ≡ i - r
count_to [] r p zero first middle low high l = omega arith
count_to (k ∷ kinds) zero p zero first middle low high l = refl
count_to (Regular ∷ kinds) zero p (suc i) first middle low high l = regular_no_parameter (middle 0 (omega arith) (omega arith) (omega arith))
count_to (Parameter ∷ kinds) zero p (suc i) first middle low high l = grind (arith, count_to kinds 0 (p - 1) i (λ m a b. absurd (omega arith)) (λ m a b c. middle (suc m) (omega arith) (omega arith) (omega arith)) (omega arith) (omega arith) (omega arith))
count_to (Regular ∷ kinds) (suc r) p (suc i) first middle low high l = grind (arith, count_to kinds r p i (λ m a b. first (suc m) (omega arith) (omega arith)) (λ m a b c. middle (suc m) (omega arith) (omega arith) (omega arith)) (omega arith) (omega arith) (omega arith))
count_to (Parameter ∷ kinds) (suc r) p (suc i) first middle low high l = regular_no_parameter (sym (first 0 (omega arith) (omega arith)))
count_to kinds r p i first middle low high l = absurd (omega arith)

-- a source that isn't regular is a parameter
other_kind : (kinds : List Kind) (i : ℕ) → i < length kinds → (slice_get kinds i ≡ Some Regular → ⊥) → slice_get kinds i ≡ Some Parameter
other_kind kinds i l never = let (kind, at) = at_within kinds i l in by kind at
  where
    by : (kind : Kind) → slice_get kinds i ≡ Some kind → slice_get kinds i ≡ Some Parameter
    by Regular at = absurd (never at)
    by Parameter at = at

-- In a shape the parameters stand behind the regular inputs: the one at the place j is the source 1 + regular + j.
pub record StandsAt (shape : Shape) (j n : ℕ) : Type 0 where
  pub above : shape.regular < n
  pub place : n - 1 ≡ shape.regular + j
  pub below : j < shape.params

pub param_place : (g : Aig) (shape : Shape) (j n : ℕ) → HasShape g shape → IsParam g j n → StandsAt shape j n
param_place g shape j n has is =
    let at : slice_get g.kinds (n - 1) ≡ Some Parameter = (is.source).is in
    let one : 1 ≤ n = (is.source).above in
    let inside : n - 1 < length g.kinds = slice_get_within g.kinds (n - 1) Parameter at in
    let count : length g.kinds ≡ last_source shape = has.count in
    let not_regular : is_regular shape n ≡ true → ⊥ = λ r. one_kind g n (has.to_regular n r) is.source in
    let low : shape.regular < n = elim (cases_lt shape.regular n) [ inl l ↦ l | inr l ↦ absurd (not_regular (input_is shape n one l)) ] in
    let high : n ≤ shape.regular + shape.params = elim (cases_lt (shape.regular + shape.params) n) [ inl l ↦ absurd (not_regular (latch_is shape n l (omega arith))) | inr l ↦ l ] in
    let counted : param_count (take (n - 1) g.kinds) ≡ n - 1 - shape.regular =
    count_to g.kinds shape.regular shape.params (n - 1)
    (λ k a b. kind_at k b (has.to_regular (k + 1) (input_is shape (k + 1) (omega arith) (omega arith))))
    (λ k a b c. other_kind g.kinds k c (λ r.
    let regular : is_regular shape (k + 1) ≡ true = has.from_regular (k + 1) (record { above = omega arith; is = (let e : k + 1 - 1 ≡ k = omega arith in subst (λ m. slice_get g.kinds m ≡ Some Regular) (sym e) r) }) in
    between k a b (either_side shape (k + 1) regular)))
    (omega arith) (omega arith) (omega arith) in
    record { above = low; place = omega arith; below = omega arith }
  where
    input_is : (s : Shape) (m : ℕ) → 1 ≤ m → m ≤ s.regular → is_regular s m ≡ true
    input_is s m a b = or_left (leb 1 m && leb m s.regular) (ltb (s.regular + s.params) m && leb m (last_source s)) (and_from (leb 1 m) (leb m s.regular) (le-leb 1 m a) (le-leb m s.regular b))

    latch_is : (s : Shape) (m : ℕ) → s.regular + s.params < m → m ≤ last_source s → is_regular s m ≡ true
    latch_is s m a b = or_right (leb 1 m && leb m s.regular) (ltb (s.regular + s.params) m && leb m (last_source s)) (and_from (ltb (s.regular + s.params) m) (leb m (last_source s)) (lt-ltb (s.regular + s.params) m a) (le-leb m (last_source s) b))

    kind_at : (k : ℕ) → k < length g.kinds → IsSource g Regular (k + 1) → slice_get g.kinds k ≡ Some Regular
    kind_at k l s = let e : k + 1 - 1 ≡ k = omega arith in subst (λ m. slice_get g.kinds m ≡ Some Regular) e s.is

    between : (k : ℕ) → shape.regular ≤ k → k < shape.regular + shape.params → IsInputOrLatch shape (k + 1) → ⊥
    between k a b (input c d) = omega arith
    between k a b (latch c d) = omega arith

-- so among the values of a shape's sources the parameters have their own
pub HaveParams-shape : (g : Aig) (shape : Shape) (inputs params states sources : List Bool) → HasShape g shape → AreSourceValues shape inputs params states sources → HaveParams g params sources
HaveParams-shape g shape inputs params states sources has values = record {
  each = λ j n is.
      let at : StandsAt shape j n = param_place g shape j n has is in
      let li : length inputs ≡ shape.regular = values.inputs_len in
      let lp : length params ≡ shape.params = values.params_len in
      let below : j < shape.params = at.below in
      let e : n - 1 ≡ shape.regular + j = at.place in
      let place : n - 1 ≡ length inputs + j = omega arith in
      ap (λ xs. get_or xs (n - 1) false) values.all
      ∙ ap (λ m. get_or (inputs ++ (params ++ states)) m false) place
      ∙ get_or-append-add inputs (params ++ states) j false
      ∙ get_or-append params states false j (omega arith);
}

-- What a table's leaves keep: they ascend, and each is a regular source or an AND node.
pub record AreLeaves (g : Aig) (leaves : List ℕ) : Type 0 where
  pub ascending : IsAscending leaves
  pub kinds : (m : ℕ) → In leaves m → CanBeLeaf g m

-- so neither the constant
pub leaf_not_constant : (g : Aig) (leaves : List ℕ) (n : ℕ) → AreLeaves g leaves → n ≡ 0 → In leaves n → ⊥
leaf_not_constant g leaves n are z i = search rules

-- nor a parameter is a leaf
pub leaf_not_parameter : (g : Aig) (leaves : List ℕ) (n : ℕ) → AreLeaves g leaves → IsSource g Parameter n → In leaves n → ⊥
leaf_not_parameter g leaves n are p i = search (rules, one_kind, slice_get_within)

-- a leaf has one place
pub one_place : (leaves : List ℕ) (n i j : ℕ) → IsAscending leaves → slice_get leaves i ≡ Some n → slice_get leaves j ≡ Some n → i ≡ j
one_place [] n i j a at to = absurd (none-some n at)
one_place (x ∷ xs) n zero zero a at to = refl
one_place (x ∷ xs) n zero (suc j) a at to = absurd (let l : x < n = a.0 n (In-get xs j n to) in let e : x ≡ n = same_Some x n at in omega arith)
one_place (x ∷ xs) n (suc i) zero a at to = absurd (let l : x < n = a.0 n (In-get xs i n at) in let e : x ≡ n = same_Some x n to in omega arith)
one_place (x ∷ xs) n (suc i) (suc j) a at to = ap suc (one_place xs n i j a.1 at to)

-- a node has one pair
pub one_pair : (g : Aig) (n : ℕ) (p q : Pair) → IsNode g p n → IsNode g q n → q ≡ p
one_pair g n p q a b = same_Some q p (sym b.is ∙ a.is)

-- an AND node is neither the constant nor a parameter
pub node_not_constant : (g : Aig) (n : ℕ) (p : Pair) → n ≡ 0 → IsNode g p n → ⊥
node_not_constant g n p z is = let l : first_and g ≤ n = is.above in omega arith

pub node_not_parameter : (g : Aig) (j n : ℕ) (p : Pair) → IsParam g j n → IsNode g p n → ⊥
node_not_parameter g j n p is at = omega (arith, at.above, (is.source).above, slice_get_within g.kinds (n - 1) Parameter (is.source).is)

pub constant_not_parameter : (g : Aig) (j n : ℕ) → n ≡ 0 → IsParam g j n → ⊥
constant_not_parameter g j n z is = let a : 1 ≤ n = (is.source).above in omega arith

-- the bit of a node is the only one
pub one_bit : (g : Aig) (params : List Bool) (leaves : List ℕ) (v n : ℕ) (a b : Bool) → AreLeaves g leaves → NodeBit g params leaves v n a → NodeBit g params leaves v n b → a ≡ b
one_bit g params leaves v n a b are (leaf i at e) (leaf j to f) = e ∙ ap (digit v) (one_place leaves n i j are.ascending at to) ∙ sym f
one_bit g params leaves v n a b are (leaf i at e) (constant z f) = absurd (leaf_not_constant g leaves n are z (In-get leaves i n at))
one_bit g params leaves v n a b are (leaf i at e) (parameter j is f) = absurd (leaf_not_parameter g leaves n are is.source (In-get leaves i n at))
one_bit g params leaves v n a b are (leaf i at e) (node q u w out is bu bw f) = absurd (out (In-get leaves i n at))
one_bit g params leaves v n a b are (constant z e) (leaf j to f) = absurd (leaf_not_constant g leaves n are z (In-get leaves j n to))
one_bit g params leaves v n a b are (constant z e) (constant y f) = e ∙ sym f
one_bit g params leaves v n a b are (constant z e) (parameter j is f) = absurd (constant_not_parameter g j n z is)
one_bit g params leaves v n a b are (constant z e) (node q u w out is bu bw f) = absurd (node_not_constant g n q z is)
one_bit g params leaves v n a b are (parameter i is e) (leaf j to f) = absurd (leaf_not_parameter g leaves n are is.source (In-get leaves j n to))
one_bit g params leaves v n a b are (parameter i is e) (constant z f) = absurd (constant_not_parameter g i n z is)
one_bit g params leaves v n a b are (parameter i is e) (parameter j to f) = same_Some a b (sym e ∙ ap (slice_get params) (sym is.place ∙ to.place) ∙ f)
one_bit g params leaves v n a b are (parameter i is e) (node q u w out at bu bw f) = absurd (node_not_parameter g i n q is at)
one_bit g params leaves v n a b are (node p x y out at bx by e) (leaf j to f) = absurd (out (In-get leaves j n to))
one_bit g params leaves v n a b are (node p x y out at bx by e) (constant z f) = absurd (node_not_constant g n p z at)
one_bit g params leaves v n a b are (node p x y out at bx by e) (parameter j is f) = absurd (node_not_parameter g j n p is at)
one_bit g params leaves v n a b are (node p x y out at bx by e) (node q u w off to bu bw f) =
    let same : q ≡ p = one_pair g n p q at to in
    let ex : x ≡ u = one_bit g params leaves v (p.x.0 / 2) x u are bx (subst (λ (r : Pair). NodeBit g params leaves v (r.x.0 / 2) u) same bu) in
    let ey : y ≡ w = one_bit g params leaves v (p.y.0 / 2) y w are by (subst (λ (r : Pair). NodeBit g params leaves v (r.y.0 / 2) w) same bw) in
    e ∙ ap (λ c. in_phase p.x.0 c && in_phase p.y.0 y) ex ∙ ap (λ c. in_phase p.x.0 u && in_phase p.y.0 c) ey ∙ ap (λ (r : Pair). in_phase r.x.0 u && in_phase r.y.0 w) (sym same) ∙ sym f

-- a blocked node has a bit
pub record HasBit (g : Aig) (params : List Bool) (leaves : List ℕ) (v n : ℕ) : Type 0 where
  pub bit : Bool
  pub is : NodeBit g params leaves v n bit

leaf_bit : (g : Aig) (params : List Bool) (leaves : List ℕ) (v n : ℕ) → In leaves n → HasBit g params leaves v n
leaf_bit g params leaves v n i = let p = place_in leaves n i in record { bit = digit v p.0; is = leaf p.0 p.1 refl }

pub has_bit : (g : Aig) (params : List Bool) (leaves : List ℕ) (v n : ℕ) → length params ≡ param_count g.kinds → Blocks g leaves n → HasBit g params leaves v n
has_bit g params leaves v n len (member i) = leaf_bit g params leaves v n i
has_bit g params leaves v n len (blocks_constant z) = record { bit = false; is = constant z refl }
has_bit g params leaves v n len (blocks_parameter s) =
    let is : IsParam g _ n = record { source = s; place = refl } in
    record { bit = get_or params _ false; is = parameter _ is (slice_get-get_or params _ false (omega (arith, param_below g _ n is))) }
has_bit g params leaves v n len (fan_ins p is bx by) = elim (in_or leaves n) [
  | inl i ↦ leaf_bit g params leaves v n i
  | inr out ↦
      let x : HasBit g params leaves v (p.x.0 / 2) = has_bit g params leaves v (p.x.0 / 2) len bx in
      let y : HasBit g params leaves v (p.y.0 / 2) = has_bit g params leaves v (p.y.0 / 2) len by in
      record { bit = in_phase p.x.0 x.bit && in_phase p.y.0 y.bit; is = node p x.bit y.bit out is x.is y.is refl }
]

-- each leaf's digit is its value
pub record AreDigits (values : List Bool) (leaves : List ℕ) (v : ℕ) : Type 0 where
  pub each : (j : ℕ) → j < length leaves → digit v j ≡ node_value values (get_or leaves j 0)

digit_of : (values : List Bool) (leaves : List ℕ) (v n j : ℕ) → AreDigits values leaves v → slice_get leaves j ≡ Some n → node_value values n ≡ digit v j
digit_of values leaves v n j digits at = grind (arith, slice_get_within, get_or_from_slice_get)

leaf_value : (g : Aig) (params : List Bool) (leaves : List ℕ) (v : ℕ) (values : List Bool) (n : ℕ) → AreDigits values leaves v → In leaves n → NodeBit g params leaves v n (node_value values n)
leaf_value g params leaves v values n digits i = let p = place_in leaves n i in leaf p.0 p.1 (digit_of values leaves v n p.0 digits p.1)

-- so the value of a blocked node in the graph is its bit
pub fits_bit : (g : Aig) (params : List Bool) (leaves : List ℕ) (v : ℕ) (sources values : List Bool) (n : ℕ) → FitsGraph g sources values → HaveParams g params sources → length params ≡ param_count g.kinds
    → AreDigits values leaves v → Blocks g leaves n → NodeBit g params leaves v n (node_value values n)
fits_bit g params leaves v sources values n fits have len digits (member i) = leaf_value g params leaves v values n digits i
fits_bit g params leaves v sources values n fits have len digits (blocks_constant z) = constant z (ap (node_value values) z ∙ fits.constant)
fits_bit g params leaves v sources values n fits have len digits (blocks_parameter s) =
    let is : IsParam g _ n = record { source = s; place = refl } in
    let l : _ < param_count g.kinds = param_below g _ n is in
    let within : n - 1 < length g.kinds = slice_get_within g.kinds (n - 1) Parameter s.is in
    parameter _ is (slice_get-get_or params _ false (omega arith) ∙ ap (λ b. Some b) (sym (fits.source n s.above (omega arith) ∙ have.each _ n is)))
fits_bit g params leaves v sources values n fits have len digits (fan_ins p is bx by) = elim (in_or leaves n) [
  | inl i ↦ leaf_value g params leaves v values n digits i
  | inr out ↦
      node p (node_value values (p.x.0 / 2)) (node_value values (p.y.0 / 2)) out is (fits_bit g params leaves v sources values (p.x.0 / 2) fits have len digits bx)
      (fits_bit g params leaves v sources values (p.y.0 / 2) fits have len digits by) (fits.node n p is)
]
