-- The sources and the roots of a source circuit's graph: how many there are, the shape of the sources, how many of them are parameters, and their values in a cycle.
use Rattle.cmd_stations.proofs.Common.{GRAPH_ROOM, ◌≡◌, ℕ, zero, suc, ◌+◌, ◌-◌, ◌<◌, ◌≤◌, Bool, true, ◌&&◌, leb, ltb, List, ◌++◌, length, map, replicate, Some, refl, sym, ap, ◌∙◌, subst, inl, inr, ◌⊎◌, arith, append_assoc, length-map, length-append, length-replicate, same_Some, slice_get_within, and_parts, and_from, or_cases, or_left, or_right, leb-true, le-leb, lt-ltb, ltb-true, cases_lt, get_left, replicate_at, AreOnce, Param, param_names, regular_names, Kind, Regular, Parameter, Aig, input_names, source_kinds, source_values, Shape, is_regular, last_source, HasShape, AreSourceValues, Source, width_of, shape_of, ◌∷◌, LibraryValue, FlatLatch, FlatNet, OutPort, FlatValue, Lit, Pair, RootsValue, Literals, MakesAll, none, more, IsGraphOf}
use Rattle.std.specs.List.{slice_get}
use Rattle.list_laws.proofs.TwoLists.{get_right}
use Rattle.bit_fun.specs.Parameters.{param_count}
use Rattle.cmd_stations.proofs.InputLemmas.{input_at, inputs_are}

-- regular sources, parameters, and regular sources again
abbrev three : ℕ → ℕ → ℕ → List Kind
three r p l = replicate r Regular ++ (replicate p Parameter ++ replicate l Regular)

pub three_count : (r p l : ℕ) → length (three r p l) ≡ r + p + l
three_count r p l =
    let a : length (three r p l) ≡ length (replicate r Regular) + length (replicate p Parameter ++ replicate l Regular) = length-append (replicate r Regular) (replicate p Parameter ++ replicate l Regular) in
    let b : length (replicate p Parameter ++ replicate l Regular) ≡ length (replicate p Parameter) + length (replicate l Regular) = length-append (replicate p Parameter) (replicate l Regular) in
    let c : length (replicate r Regular) ≡ r = length-replicate r Regular in
    let d : length (replicate p Parameter) ≡ p = length-replicate p Parameter in
    let e : length (replicate l Regular) ≡ l = length-replicate l Regular in
    omega arith

-- the kinds at their places
first_kind : (r p l i : ℕ) → i < r → slice_get (three r p l) i ≡ Some Regular
first_kind r p l i h = get_left (replicate r Regular) (replicate p Parameter ++ replicate l Regular) i Regular (replicate_at r i Regular h)

behind : (r : ℕ) (ks : List Kind) (i : ℕ) (k : Kind) → slice_get ks i ≡ Some k → (x : Kind) → slice_get (replicate r x ++ ks) (r + i) ≡ Some k
behind r ks i k h x = subst (λ n. slice_get (replicate r x ++ ks) (n + i) ≡ Some k) (length-replicate r x) (get_right (replicate r x) ks i k h)

second_kind : (r p l i : ℕ) → i < p → slice_get (three r p l) (r + i) ≡ Some Parameter
second_kind r p l i h = behind r (replicate p Parameter ++ replicate l Regular) i Parameter (get_left (replicate p Parameter) (replicate l Regular) i Parameter (replicate_at p i Parameter h)) Regular

third_kind : (r p l i : ℕ) → i < l → slice_get (three r p l) (r + (p + i)) ≡ Some Regular
third_kind r p l i h = behind r (replicate p Parameter ++ replicate l Regular) (p + i) Regular (behind p (replicate l Regular) i Regular (replicate_at l i Regular h) Parameter) Regular

at_place : (r p l i j : ℕ) (k : Kind) → i ≡ j → slice_get (three r p l) i ≡ Some k → slice_get (three r p l) j ≡ Some k
at_place r p l i j k e h = subst (λ n. slice_get (three r p l) n ≡ Some k) e h

-- which places are regular
pub data IsRegularPlace (r p l n : ℕ) : Type 0 where
  an_input : 1 ≤ n → n ≤ r → IsRegularPlace r p l n
  a_latch : r + p < n → n ≤ r + p + l → IsRegularPlace r p l n

regular_place : (shape : Shape) (n : ℕ) → is_regular shape n ≡ true → IsRegularPlace shape.regular shape.params shape.latches n
regular_place shape n h = elim (or_cases (leb 1 n && leb n shape.regular) (ltb (shape.regular + shape.params) n && leb n (last_source shape)) h) [
  | inl a ↦ (let q = and_parts (leb 1 n) (leb n shape.regular) a in an_input (leb-true 1 n q.0) (leb-true n shape.regular q.1))
  | inr b ↦ (let q = and_parts (ltb (shape.regular + shape.params) n) (leb n (last_source shape)) b in a_latch (ltb-true (shape.regular + shape.params) n q.0) (leb-true n (last_source shape) q.1))
]

place_regular : (shape : Shape) (n : ℕ) → IsRegularPlace shape.regular shape.params shape.latches n → is_regular shape n ≡ true
place_regular shape n (an_input a b) =
    or_left (leb 1 n && leb n shape.regular) (ltb (shape.regular + shape.params) n && leb n (last_source shape)) (and_from (leb 1 n) (leb n shape.regular) (le-leb 1 n a) (le-leb n shape.regular b))
place_regular shape n (a_latch a b) =
    or_right (leb 1 n && leb n shape.regular) (ltb (shape.regular + shape.params) n && leb n (last_source shape))
    (and_from (ltb (shape.regular + shape.params) n) (leb n (last_source shape)) (lt-ltb (shape.regular + shape.params) n a) (le-leb n (last_source shape) b))

kind_there : (r p l n : ℕ) → IsRegularPlace r p l n → slice_get (three r p l) (n - 1) ≡ Some Regular
kind_there r p l n (an_input a b) = first_kind r p l (n - 1) (omega arith)
kind_there r p l n (a_latch a b) = at_place r p l (r + (p + (n - 1 - (r + p)))) (n - 1) Regular (omega arith) (third_kind r p l (n - 1 - (r + p)) (omega arith))

-- a place is within the first list, the second one, or behind both
data Part (r p n : ℕ) : Type 0 where
  first : n < r → Part r p n
  second : (i : ℕ) → i < p → n ≡ r + i → Part r p n
  third : r + p ≤ n → Part r p n

part_of : (r p n : ℕ) → Part r p n
part_of r p n = elim (below_or n r) [
  | inl a ↦ first a
  | inr b ↦ elim (below_or n (r + p)) [
    | inl c ↦ second (n - r) (omega arith) (omega arith)
    | inr d ↦ third d
  ]
]
  where
    below_or : (m k : ℕ) → (m < k) ⊎ (k ≤ m)
    below_or m k = cases_lt m k

regular_there : (r p l n : ℕ) → 1 ≤ n → slice_get (three r p l) (n - 1) ≡ Some Regular → IsRegularPlace r p l n
regular_there r p l n a h = go (part_of r p (n - 1))
  where
    within : n - 1 < length (three r p l)
    within = slice_get_within (three r p l) (n - 1) Regular h

    differ : Parameter ≡ Regular → ⊥
    differ e = cc

    go : Part r p (n - 1) → IsRegularPlace r p l n
    go (first b) = an_input a (omega arith)
    go (second i b e) = absurd (differ (same_Some Parameter Regular (sym (at_place r p l (r + i) (n - 1) Parameter (sym e) (second_kind r p l i b)) ∙ h)))
    go (third b) =
        let c : length (three r p l) ≡ r + p + l = three_count r p l in
        let w : n - 1 < length (three r p l) = within in a_latch (omega arith) (omega arith)

-- a shape with a source circuit's numbers is its shape
pub shape_is : (source : Source) (shape : Shape) → shape.regular ≡ width_of source → shape.params ≡ length source.params.list → shape.latches ≡ length source.netlist.flat.latches → shape ≡ shape_of source
shape_is source shape regular params latches =
    ap (λ r. record { regular = r; params = shape.params; latches = shape.latches }) regular
    ∙ ap (λ p. record { regular = width_of source; params = p; latches = shape.latches }) params
    ∙ ap (λ l. record { regular = width_of source; params = length source.params.list; latches = l }) latches

-- the shape of the graph's sources
pub source_shape : (source : Source) (g : Aig) → g.kinds ≡ source_kinds source.netlist.flat source.params.list → HasShape g (shape_of source)
source_shape source g kinds = record {
  count = ap (λ (ks : List Kind). length ks) kinds ∙ three_count (width_of source) (length source.params.list) (length source.netlist.flat.latches);
  to_regular = λ n h.
      let place = regular_place (shape_of source) n h in
      record { above = at_least n place; is = subst (λ (ks : List Kind). slice_get ks (n - 1) ≡ Some Regular) (sym kinds) (kind_there (width_of source) (length source.params.list) (length source.netlist.flat.latches) n place) };
  from_regular = λ n h.
      place_regular (shape_of source) n
      (regular_there (width_of source) (length source.params.list) (length source.netlist.flat.latches) n h.above (subst (λ (ks : List Kind). slice_get ks (n - 1) ≡ Some Regular) kinds h.is));
}
  where
    at_least : (n : ℕ) → IsRegularPlace (width_of source) (length source.params.list) (length source.netlist.flat.latches) n → 1 ≤ n
    at_least n (an_input a b) = a
    at_least n (a_latch a b) = omega arith

-- how many of them are parameters
skip_regular : (r : ℕ) (ks : List Kind) → param_count (replicate r Regular ++ ks) ≡ param_count ks
skip_regular zero ks = refl
skip_regular (suc r) ks = skip_regular r ks

count_params : (p : ℕ) (ks : List Kind) → param_count (replicate p Parameter ++ ks) ≡ p + param_count ks
count_params zero ks = sym (omega arith)
count_params (suc p) ks = let rest : param_count (replicate p Parameter ++ ks) ≡ p + param_count ks = count_params p ks in omega arith

none_regular : (l : ℕ) → param_count (replicate l Regular) ≡ 0
none_regular zero = refl
none_regular (suc l) = none_regular l

pub source_params : (source : Source) (g : Aig) → g.kinds ≡ source_kinds source.netlist.flat source.params.list → param_count g.kinds ≡ length source.params.list
source_params source g kinds =
    let p = length source.params.list in
    let l = length source.netlist.flat.latches in
    let a : param_count g.kinds ≡ param_count (replicate p Parameter ++ replicate l Regular) = ap (λ (ks : List Kind). param_count ks) kinds ∙ skip_regular (width_of source) (replicate p Parameter ++ replicate l Regular) in
    let b : param_count (replicate p Parameter ++ replicate l Regular) ≡ p + param_count (replicate l Regular) = count_params p (replicate l Regular) in
    let c : param_count (replicate l Regular) ≡ 0 = none_regular l in
    omega arith

-- the values of the sources in a cycle
pub source_values_are : (source : Source) (params values s : List Bool) → AreOnce (input_names source.netlist.flat source.params.list) → length params ≡ length source.params.list → length values ≡ width_of source
    → length s ≡ length source.netlist.flat.latches → AreSourceValues (shape_of source) values params s (source_values source.netlist.flat source.params.list (input_at source params values) s)
source_values_are source params values s once params_len len states = record {
  inputs_len = len;
  params_len = params_len;
  states_len = states;
  all = ap (λ vs. vs ++ s) (inputs_are source once params values params_len len) ∙ append_assoc values params s;
}

pub source_values_count : (source : Source) (g : Aig) (x : List ℕ → Bool) (s : List Bool) → g.kinds ≡ source_kinds source.netlist.flat source.params.list → length s ≡ length source.netlist.flat.latches
    → length (source_values source.netlist.flat source.params.list x s) ≡ length g.kinds
source_values_count source g x s kinds states =
    let names = input_names source.netlist.flat source.params.list in
    let a : length (map x names ++ s) ≡ length (map x names) + length s = length-append (map x names) s in
    let b : length (map x names) ≡ length names = length-map names x in
    let c : length names ≡ width_of source + length (param_names source.params.list) = length-append (regular_names source.netlist.flat source.params.list) (param_names source.params.list) in
    let d : length (param_names source.params.list) ≡ length source.params.list = length-map source.params.list (λ (p : Param). p.name) in
    let e : length g.kinds ≡ width_of source + length source.params.list + length source.netlist.flat.latches = ap (λ (ks : List Kind). length ks) kinds ∙ three_count (width_of source) (length source.params.list) (length source.netlist.flat.latches) in
    omega arith

-- there is a literal for each net that is made
made_count : (library : LibraryValue) (flat : FlatValue) (params : List Param) {pairs : List Pair} {nets : List FlatNet} {made : Literals} → MakesAll library flat params pairs nets made → length made.lits ≡ length nets
made_count library flat params (none no_nets is) = ap (λ (m : Literals). length m.lits) is ∙ sym (ap (λ (ns : List FlatNet). length ns) no_nets)
made_count library flat params {nets = nets} {made = made} (more net rest this others are one all is) =
    let later : length others.lits ≡ length rest = made_count library flat params all in
    let here : length made.lits ≡ length (record { 0 = this.lit } ∷ others.lits) = ap (λ (m : Literals). length m.lits) is in
    let there : length nets ≡ length (net ∷ rest) = ap (λ (ns : List FlatNet). length ns) are in
    omega arith

module _ (source : Source) (g : Aig) (roots : RootsValue) (is : IsGraphOf source.netlist.library source.netlist.flat source.params.list GRAPH_ROOM g roots) where
  abbrev flat : FlatValue
  flat = source.netlist.flat

  abbrev params : List Param
  params = source.params.list

  -- there is a source for each input and each latch
  pub source_count : length g.kinds ≡ length (regular_names flat params) + length params + length flat.latches
  source_count = ap (λ (ks : List Kind). length ks) is.kinds ∙ three_count (length (regular_names flat params)) (length params) (length flat.latches)

  -- and a root for each latch, beside those of the outputs
  pub next_roots : length roots.next ≡ length flat.latches
  next_roots =
      let outs = map (λ (o : OutPort). o.net) flat.outputs in
      let ins = map (λ (l : FlatLatch). l.input) flat.latches in
      let a : length is.made.lits ≡ length (outs ++ ins) = made_count source.netlist.library flat params is.are_made in
      let b : length (outs ++ ins) ≡ length outs + length ins = length-append outs ins in
      let c : length outs ≡ length flat.outputs = length-map flat.outputs (λ (o : OutPort). o.net) in
      let d : length ins ≡ length flat.latches = length-map flat.latches (λ (l : FlatLatch). l.input) in
      let e : length (roots.outputs ++ roots.next) ≡ length is.made.lits = ap (λ (ls : List Lit). length ls) is.literals in
      let f : length (roots.outputs ++ roots.next) ≡ length roots.outputs + length roots.next = length-append roots.outputs roots.next in
      let k : length roots.outputs ≡ length flat.outputs = is.outputs in
      omega arith
