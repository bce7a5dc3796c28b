-- Values that fit the lines of a graph's circuit are those of the graph's nodes: from the one to the other, and that there is one fit.
use Rattle.aiger_io.proofs.Common.{◌≡◌, ℕ, ◌+◌, ◌-◌, ◌*◌, ◌/◌, ◌%◌, ◌<◌, ◌≤◌, Bool, false, cond, not, ◌&&◌, eqb, List, ◌++◌, length, map, Some, inl, inr, refl, sym, ap, ◌∙◌, subst, arith, length-append, slice_get, range_with_len, cases_lt, length-map-range_with_len, get_or-map-range_with_len, same_Some, slice_get_within, get_or_from_slice_get, map_agree, place_in, at_within, get_left, same_list, get_right, Aig, first_and, node_count, pair_of, AreNormal, RootsValue, node_value, value_of, FitsGraph, HasOneFit, Pair, FlatValue, Param, Circuit, input_count, lit_at, graph_circuit, IsWrittenFrom, literal_value, FitsLines, IsDefined, Item, Input, Latch, And, rules}
use Rattle.std.proofs.Math.Bool.{and_comm}
use Rattle.list_laws.proofs.Ranges.{of_range}
use Rattle.aiger_io.specs.Run as run
use Rattle.aiger_io.proofs.GraphItemLemmas.{IsGraphItem, an_input, an_output, a_latch, a_gate, item_is, input_there, latch_there, gate_there}
use Rattle.aiger_io.proofs.PlaceLemmas.{defined_low}
use Rattle.aiger_io.proofs.RoundTripLemmas.{IsFormed}

-- the value of a literal, where its node and its variable have one value
pub literal_same : (values : List Bool) (value : ℕ → Bool) (l : ℕ) → node_value values (l / 2) ≡ value (l / 2) → value_of values l ≡ literal_value value l
literal_same values value l e = (grind arith) ∙ ap (λ b. cond (eqb (l % 2) 1) (not b) b) e

-- the values of sources and of all nodes, from those of variables
abbrev pub source_list : Aig → (ℕ → Bool) → List Bool
source_list g value = map value (range_with_len 1 (length g.kinds))

abbrev pub node_list : Aig → (ℕ → Bool) → List Bool
node_list g value = map value (range_with_len 0 (node_count g))

pub node_at : (g : Aig) (value : ℕ → Bool) (n : ℕ) → n < node_count g → node_value (node_list g value) n ≡ value n
node_at g value n l = get_or-map-range_with_len value 0 (node_count g) n n false l (omega arith)

source_at : (g : Aig) (value : ℕ → Bool) (k : ℕ) → k < length g.kinds → node_value (source_list g value) k ≡ value (1 + k)
source_at g value k l = get_or-map-range_with_len value 1 (length g.kinds) k (1 + k) false l refl

module _ (flat : FlatValue) (params : List Param) (regular : List ℕ) (g : Aig) (roots : RootsValue) (from : IsWrittenFrom flat params regular g roots) where
  abbrev written : Circuit
  written = graph_circuit flat params regular g roots

  -- what stands at a place
  stands : (p : ℕ) (item : Item) → slice_get written.items p ≡ Some item → IsGraphItem (input_count regular params) flat.latches g roots p item
  stands p item e = item_is (input_count regular params) flat.latches g roots p item e

  -- from the graph to the lines
  module _ (x s values : List Bool) (inputs : length x ≡ input_count regular params) (states : length s ≡ length flat.latches) (fits : FitsGraph g (x ++ s) values) where
    -- the value of a source, and that of each kind of line
    source_is : (k : ℕ) (b : Bool) → slice_get (x ++ s) k ≡ Some b → b ≡ node_value values (1 + k)
    source_is k b e = grind (arith, slice_get_within, get_or_from_slice_get)

    input_fits : (k own : ℕ) → IsGraphItem (input_count regular params) flat.latches g roots k (Input own) → slice_get x k ≡ Some (node_value values (own / 2))
    input_fits k own (an_input low is) =
        let q : own ≡ 2 * (1 + k) = cc in
        let b = at_within x k (omega arith) in
        b.1 ∙ ap (λ v. Some v) (source_is k b.0 (get_left x s k b.0 b.1)) ∙ ap (λ v. Some (node_value values v)) (omega arith)
    input_fits k own (a_latch j l at there is) = absurd (cc)
    input_fits k own (an_output j l at there is) = absurd (cc)
    input_fits k own (a_gate j pair at there is) = absurd (cc)

    latch_fits : (k own next : ℕ) (init : Bool) → IsGraphItem (input_count regular params) flat.latches g roots (input_count regular params + k) (Latch own next init) → slice_get s k ≡ Some (node_value values (own / 2))
    latch_fits k own next init (an_input low is) = absurd (cc)
    latch_fits k own next init (a_latch j l at there is) =
        let q : own ≡ 2 * (1 + input_count regular params + j) = cc in
        let w : j < length flat.latches = slice_get_within flat.latches j l there in
        let b = at_within s k (omega arith) in
        b.1 ∙ ap (λ v. Some v) (source_is (length x + k) b.0 (get_right x s k b.0 b.1)) ∙ ap (λ v. Some (node_value values v)) (omega arith)
    latch_fits k own next init (an_output j l at there is) = absurd (cc)
    latch_fits k own next init (a_gate j pair at there is) = absurd (cc)

    gate_fits : (p own left right : ℕ) → IsGraphItem (input_count regular params) flat.latches g roots p (And own left right) → node_value values (own / 2) ≡ literal_value (node_value values) left && literal_value (node_value values) right
    gate_fits p own left right (an_input low is) = absurd (cc)
    gate_fits p own left right (a_latch j l at there is) = absurd (cc)
    gate_fits p own left right (an_output j l at there is) = absurd (cc)
    gate_fits p own left right (a_gate j pair at there is) =
        let q : own ≡ 2 * (first_and g + j) = cc in
        let b : pair.x.0 ≡ right = cc in
        let z : j ≡ first_and g + j - first_and g = omega arith in
        ap (node_value values) (omega arith)
        ∙ fits.node (first_and g + j) pair (record { above = omega arith; is = subst (λ m. slice_get g.pairs m ≡ Some pair) z there })
        ∙ and_comm (value_of values pair.x.0) (value_of values pair.y.0)
        ∙ ap (λ v. v && value_of values pair.x.0) (literal_same values (node_value values) pair.y.0 refl ∙ ap (literal_value (node_value values)) cc)
        ∙ ap (λ v. literal_value (node_value values) left && v) (literal_same values (node_value values) pair.x.0 refl ∙ ap (literal_value (node_value values)) b)

    -- all lines
    pub lines_fit : FitsLines written x s (node_value values)
    lines_fit = record {
      zero_is = fits.constant;
      inputs = λ k own e. input_fits k own (stands k (Input own) e);
      latches = λ k own next init e. latch_fits k own next init (stands (input_count regular params + k) (Latch own next init) e);
      ands = λ own left right i. let p = place_in written.items (And own left right) i in gate_fits p.0 own left right (stands p.0 (And own left right) p.1);
    }

  -- from the lines to the graph
  module _ (x s : List Bool) (value : ℕ → Bool) (fits : FitsLines written x s value) where
    -- what is given is the variable's value
    input_known : (k : ℕ) → k < input_count regular params → slice_get x k ≡ Some (value (1 + k))
    input_known k l =
        fits.inputs k (2 * (1 + k)) (input_there (input_count regular params) flat.latches g roots k l) ∙ ap (λ v. Some (value v)) (omega arith)

    latch_known : (k : ℕ) → k < length flat.latches → slice_get s k ≡ Some (value (1 + input_count regular params + k))
    latch_known k l =
        let own = at_within flat.latches k l in
        let z : 2 * (1 + input_count regular params + k) / 2 ≡ 1 + input_count regular params + k = omega arith in
        fits.latches k (2 * (1 + input_count regular params + k)) (lit_at roots.next k) (own.0).init (latch_there (input_count regular params) flat.latches g roots k own.0 own.1) ∙ ap (λ v. Some (value v)) z

    -- the values of all nodes fit
    source_known : (n : ℕ) → 1 ≤ n → n < first_and g → node_value (node_list g value) n ≡ node_value (source_list g value) (n - 1)
    source_known n low high = grind (arith, node_at, source_at)

    node_known : (normal : AreNormal (first_and g) g.pairs) (n : ℕ) (p : Pair) → first_and g ≤ n → pair_of g n ≡ Some p → node_value (node_list g value) n ≡ value_of (node_list g value) p.x.0 && value_of (node_list g value) p.y.0
    node_known normal n p low is =
        let l : n - first_and g < length g.pairs = slice_get_within g.pairs (n - first_and g) p is in
        let kept = normal.each (n - first_and g) p is in
        let below : p.y.0 / 2 < first_and g + (n - first_and g) = kept.below in
        node_at g value n (omega arith) ∙ ap value (sym (omega arith))
        ∙ fits.ands (2 * (first_and g + (n - first_and g))) p.y.0 p.x.0 (gate_there (input_count regular params) flat.latches g roots (n - first_and g) p is)
        ∙ and_comm (literal_value value p.y.0) (literal_value value p.x.0)
        ∙ ap (λ v. v && literal_value value p.y.0) (sym (literal_same (node_list g value) value p.x.0 (node_at g value (p.x.0 / 2) (omega arith))))
        ∙ ap (λ v. value_of (node_list g value) p.x.0 && v) (sym (literal_same (node_list g value) value p.y.0 (node_at g value (p.y.0 / 2) (omega arith))))

    pub nodes_fit : AreNormal (first_and g) g.pairs → FitsGraph g (source_list g value) (node_list g value)
    nodes_fit normal = search (rules, length-map-range_with_len, node_at, source_known, node_known)

    -- where as many values are given as there are sources, they are the sources' values
    given_known : (k : ℕ) (b : Bool) → length x ≡ input_count regular params → length s ≡ length flat.latches → slice_get (x ++ s) k ≡ Some b → b ≡ value (1 + k)
    given_known k b inputs states e =
        let l : k < length (x ++ s) = slice_get_within (x ++ s) k b e in
        elim (cases_lt k (input_count regular params)) [
          | inl low ↦ same_Some b (value (1 + k)) (sym e ∙ get_left x s k (value (1 + k)) (input_known k low))
          | inr high ↦ (
              let m : 1 + input_count regular params + (k - length x) ≡ 1 + k = omega arith in
              let known : slice_get s (k - length x) ≡ Some (value (1 + k)) = latch_known (k - length x) (omega (arith, length-append x s)) ∙ ap (λ v. Some (value v)) m in
              same_Some b (value (1 + k)) (sym e ∙ subst (λ i. slice_get (x ++ s) i ≡ Some (value (1 + k))) (omega arith) (get_right x s (k - length x) (value (1 + k)) known)))
        ]

    pub given_list : length x ≡ input_count regular params → length s ≡ length flat.latches → source_list g value ≡ x ++ s
    given_list inputs states =
        let m : length (source_list g value) ≡ length g.kinds = length-map-range_with_len value 1 (length g.kinds) in
        same_list (source_list g value) (x ++ s) (omega (arith, length-append x s)) (λ k a b at there.
        let l : k < length (source_list g value) = slice_get_within (source_list g value) k a at in
        sym (get_or_from_slice_get (source_list g value) k a false at) ∙ source_at g value k (omega arith) ∙ sym (given_known k b inputs states there))

  -- two that fit agree on the sources, and so on all that the lines define
  module _ (x s : List Bool) (value other : ℕ → Bool) (fits : FitsLines written x s value) (fit : FitsLines written x s other) where
    sources_agree : (n : ℕ) → 1 ≤ n → n < 1 + length g.kinds → value n ≡ other n
    sources_agree n low high =
        elim (cases_lt (n - 1) (input_count regular params)) [
          | inl l ↦ (let z : 1 + (n - 1) ≡ n = omega arith in
              subst (λ v. value v ≡ other v) z (same_Some (value (1 + (n - 1))) (other (1 + (n - 1))) (sym (input_known x s value fits (n - 1) l) ∙ input_known x s other fit (n - 1) l)))
          | inr l ↦ (
              let k : n - 1 - input_count regular params < length flat.latches = omega arith in
              let z : 1 + input_count regular params + (n - 1 - input_count regular params) ≡ n = omega arith in
              subst (λ v. value v ≡ other v) z (same_Some (value (1 + input_count regular params + (n - 1 - input_count regular params))) (other (1 + input_count regular params + (n - 1 - input_count regular params)))
              (sym (latch_known x s value fits (n - 1 - input_count regular params) k) ∙ latch_known x s other fit (n - 1 - input_count regular params) k)))
        ]

    nodes_agree : AreNormal (first_and g) g.pairs → HasOneFit g (source_list g value) → node_list g value ≡ node_list g other
    nodes_agree normal one =
        let sources : source_list g other ≡ source_list g value = map_agree other value (range_with_len 1 (length g.kinds)) (λ n i. let r = of_range 1 (length g.kinds) n i in sym (sources_agree n r.0 r.1)) in
        one.only (node_list g value) (nodes_fit x s value fits normal) ∙ sym (one.only (node_list g other) (subst (λ given. FitsGraph g given (node_list g other)) sources (nodes_fit x s other fit normal)))

  -- what the lines define are nodes
  module _ (formed : IsFormed written) where
    defined_small : (v : ℕ) → IsDefined written v → v < node_count g
    defined_small v d = omega (arith, from.sources, defined_low written formed.items v d)

    -- there is one fit
    pub written_fit : AreNormal (first_and g) g.pairs → ((given : List Bool) → length given ≡ length g.kinds → HasOneFit g given) → run.HasOneFit written
    written_fit normal one = record {
      exists = λ x s inputs states. grind (arith, length-append, lines_fit);
      agree = λ x s value other a b v defined.
          let low : v < node_count g = defined_small v defined in
          let same : node_list g value ≡ node_list g other = nodes_agree x s value other a b normal (one (source_list g value) (length-map-range_with_len value 1 (length g.kinds))) in
          sym (node_at g value v low) ∙ ap (λ vs. node_value vs v) same ∙ node_at g other v low;
    }
