-- The items of a graph's circuit: which one stands at each place, and what is picked from them. The circuit goes together: its header does, and its items
-- stand at their places, in range.
use Rattle.aiger_io.proofs.Common.{◌≡◌, ℕ, zero, suc, ◌+◌, ◌<◌, List, [], ◌∷◌, ◌++◌, length, map, drop, drop-cons, Some, inl, inr, refl, sym, ap, ◌∙◌, subst, arith, length-append, append-nil, slice_get, flat_map, range_with_len, option_map, length-map, flat_map-append, length-range_with_len, get_or-range_with_len, none-some, same_Some, slice_get-map, slice_get-get_or, slice_get_within, get_or_from_slice_get, In, In-get, In-right, get_left, drop_past, mapped_at, get_right, Aig, first_and, RootsValue, lits_of, Lit, Pair, FlatLatch, lit_at, input_item, latch_item, output_item, gate_item, graph_items, output_literal, next_literal, init_bit, output_literals, next_literals, init_bits, numbered, Item, ◌*◌, ◌/◌, ◌^◌, ◌≤◌, true, leb, and_from, le-leb, In-left, In-map, at_within, node_count, IsLit, AreNormal, FlatValue, OutPort, Param, Circuit, input_count, input_at, graph_circuit, IsWrittenFrom, is_literal, is_variable}
use Rattle.aiger_io.proofs.PortLemmas.{append_at}
use Rattle.aiger_io.proofs.PlaceLemmas.{of_gate, IsItemAt, input_here, latch_here, output_here, gate_here, variable_in, literal_in}
use Rattle.aiger_io.proofs.RoundTripLemmas.{IsFormed}

-- of things by numbers
numbered_from : {X Y : Type 0} (f : ℕ → X → Y) (n : ℕ) (xs : List X) (k : ℕ) (y : Y) → slice_get (numbered f n xs) k ≡ Some y → (x : X) × (slice_get xs k ≡ Some x) × (y ≡ f (n + k) x)
numbered_from f n [] k y e = absurd (none-some y e)
numbered_from f n (x ∷ xs) zero y e = let z : n ≡ n + zero = omega arith in (x, refl, sym (same_Some (f n x) y e) ∙ ap (λ m. f m x) z)
numbered_from f n (x ∷ xs) (suc k) y e = let r = numbered_from f (suc n) xs k y e in let z : suc n + k ≡ n + suc k = omega arith in (r.0, r.1, r.2 ∙ ap (λ m. f m r.0) z)

-- what stands at a place of the list stands there by its number
numbered_at : {X Y : Type 0} (f : ℕ → X → Y) (n : ℕ) (xs : List X) (k : ℕ) (x : X) → slice_get xs k ≡ Some x → slice_get (numbered f n xs) k ≡ Some (f (n + k) x)
numbered_at f n [] k x e = absurd (none-some x e)
numbered_at f n (y ∷ xs) zero x e = let z : n ≡ n + zero = omega arith in ap (λ w. Some (f n w)) (same_Some y x e) ∙ ap (λ m. Some (f m x)) z
numbered_at f n (y ∷ xs) (suc k) x e = let z : suc n + k ≡ n + suc k = omega arith in numbered_at f (suc n) xs k x e ∙ ap (λ m. Some (f m x)) z

-- things by numbers are as many
numbered_length : {X Y : Type 0} (f : ℕ → X → Y) (n : ℕ) (xs : List X) → length (numbered f n xs) ≡ length xs
numbered_length f n [] = refl
numbered_length f n (x ∷ xs) = ap suc (numbered_length f (suc n) xs)

-- the literal at a place
pub lit_at-is : (lits : List Lit) (k : ℕ) (l : Lit) → slice_get lits k ≡ Some l → lit_at lits k ≡ l.0
lit_at-is lits k l e = ap (λ (m : Lit). m.0) (get_or_from_slice_get lits k l (record { 0 = 0 }) e)

-- which item stands at a place of a graph's circuit
pub data IsGraphItem (inputs : ℕ) (latches : List FlatLatch) (g : Aig) (roots : RootsValue) (p : ℕ) (item : Item) : Type 0 where
  an_input : p < inputs → item ≡ input_item (1 + p) → IsGraphItem inputs latches g roots p item
  a_latch : (k : ℕ) (latch : FlatLatch) → p ≡ inputs + k → slice_get latches k ≡ Some latch → item ≡ latch_item inputs roots.next k latch → IsGraphItem inputs latches g roots p item
  an_output : (k : ℕ) (l : Lit) → p ≡ inputs + length latches + k → slice_get roots.outputs k ≡ Some l → item ≡ output_item l → IsGraphItem inputs latches g roots p item
  a_gate : (k : ℕ) (pair : Pair) → p ≡ inputs + length latches + length roots.outputs + k → slice_get g.pairs k ≡ Some pair → item ≡ gate_item (first_and g + k) pair → IsGraphItem inputs latches g roots p item

module _ (inputs : ℕ) (latches : List FlatLatch) (g : Aig) (roots : RootsValue) where
  -- the four parts
  abbrev input_part : List Item
  input_part = map input_item (range_with_len 1 inputs)

  abbrev latch_part : List Item
  latch_part = numbered (latch_item inputs roots.next) 0 latches

  abbrev output_part : List Item
  output_part = map output_item roots.outputs

  abbrev gate_part : List Item
  gate_part = numbered gate_item (first_and g) g.pairs

  -- and how long they are
  input_length : length input_part ≡ inputs
  input_length = length-map (range_with_len 1 inputs) input_item ∙ length-range_with_len 1 inputs

  latch_length : length latch_part ≡ length latches
  latch_length = numbered_length (latch_item inputs roots.next) 0 latches

  output_length : length output_part ≡ length roots.outputs
  output_length = length-map roots.outputs output_item

  pub items_count : length (graph_items inputs latches g roots) ≡ inputs + length latches + length roots.outputs + length g.pairs
  items_count = grind (arith, input_part, input_length, latch_part, latch_length, output_part, output_length, gate_part, numbered_length, length-append)

  -- from a place to its item
  input_is : (p : ℕ) (item : Item) → slice_get input_part p ≡ Some item → IsGraphItem inputs latches g roots p item
  input_is p item e =
      let r = mapped_at input_item (range_with_len 1 inputs) p item e in
      let low : p < inputs = omega (arith, length-range_with_len 1 inputs, slice_get_within (range_with_len 1 inputs) p r.0 r.1) in
      an_input low (r.2 ∙ ap input_item (sym (get_or_from_slice_get (range_with_len 1 inputs) p r.0 0 r.1) ∙ get_or-range_with_len 1 inputs p 0 low))

  latch_is : (p k : ℕ) (item : Item) → p ≡ inputs + k → slice_get latch_part k ≡ Some item → IsGraphItem inputs latches g roots p item
  latch_is p k item at e =
      let r = numbered_from (latch_item inputs roots.next) 0 latches k item e in
      a_latch k r.0 at r.1 (r.2 ∙ ap (λ m. latch_item inputs roots.next m r.0) (omega arith))

  output_is : (p k : ℕ) (item : Item) → p ≡ inputs + length latches + k → slice_get output_part k ≡ Some item → IsGraphItem inputs latches g roots p item
  output_is p k item at e = let r = mapped_at output_item roots.outputs k item e in an_output k r.0 at r.1 r.2

  gate_is : (p k : ℕ) (item : Item) → p ≡ inputs + length latches + length roots.outputs + k → slice_get gate_part k ≡ Some item → IsGraphItem inputs latches g roots p item
  gate_is p k item at e = let r = numbered_from gate_item (first_and g) g.pairs k item e in a_gate k r.0 at r.1 r.2

  pub item_is : (p : ℕ) (item : Item) → slice_get (graph_items inputs latches g roots) p ≡ Some item → IsGraphItem inputs latches g roots p item
  item_is p item e =
      let i : length input_part ≡ inputs = input_length in
      let l : length latch_part ≡ length latches = latch_length in
      let o : length output_part ≡ length roots.outputs = output_length in
      elim (append_at input_part (latch_part ++ (output_part ++ gate_part)) p item e) [
        | inl d ↦ input_is p item d.1
        | inr q ↦ (let at : p ≡ length input_part + q.0 = q.1 in elim (append_at latch_part (output_part ++ gate_part) q.0 item q.2) [
          | inl d ↦ latch_is p q.0 item (omega arith) d.1
          | inr r ↦ (let on : q.0 ≡ length latch_part + r.0 = r.1 in elim (append_at output_part gate_part r.0 item r.2) [
            | inl d ↦ output_is p r.0 item (omega arith) d.1
            | inr s ↦ (let behind : r.0 ≡ length output_part + s.0 = s.1 in gate_is p s.0 item (omega arith) s.2)
          ])
        ])
      ]

  -- and from what stands in the graph to its item
  pub input_there : (k : ℕ) → k < inputs → slice_get (graph_items inputs latches g roots) k ≡ Some (input_item (1 + k))
  input_there k l =
      let n : length (range_with_len 1 inputs) ≡ inputs = length-range_with_len 1 inputs in
      get_left input_part (latch_part ++ (output_part ++ gate_part)) k (input_item (1 + k))
      (slice_get-map input_item (range_with_len 1 inputs) k ∙ ap (option_map input_item) (slice_get-get_or (range_with_len 1 inputs) k 0 (omega arith) ∙ ap (λ m. Some m) (get_or-range_with_len 1 inputs k 0 l)))

  pub latch_there : (k : ℕ) (latch : FlatLatch) → slice_get latches k ≡ Some latch → slice_get (graph_items inputs latches g roots) (inputs + k) ≡ Some (latch_item inputs roots.next k latch)
  latch_there k latch e =
      let z : 0 + k ≡ k = omega arith in
      subst (λ m. slice_get (graph_items inputs latches g roots) (m + k) ≡ Some (latch_item inputs roots.next k latch)) input_length
      (get_right input_part (latch_part ++ (output_part ++ gate_part)) k (latch_item inputs roots.next k latch)
      (get_left latch_part (output_part ++ gate_part) k (latch_item inputs roots.next k latch)
      (numbered_at (latch_item inputs roots.next) 0 latches k latch e ∙ ap (λ m. Some (latch_item inputs roots.next m latch)) z)))

  pub gate_there : (k : ℕ) (pair : Pair) → slice_get g.pairs k ≡ Some pair → In (graph_items inputs latches g roots) (gate_item (first_and g + k) pair)
  gate_there k pair e =
      In-right input_part (latch_part ++ (output_part ++ gate_part)) (gate_item (first_and g + k) pair)
      (In-right latch_part (output_part ++ gate_part) (gate_item (first_and g + k) pair)
      (In-right output_part gate_part (gate_item (first_and g + k) pair) (In-get gate_part k (gate_item (first_and g + k) pair) (numbered_at gate_item (first_and g) g.pairs k pair e))))

-- nothing is picked from items of which none gives anything
none_mapped : {A B : Type 0} (pick : Item → List B) (f : A → Item) (xs : List A) → ((x : A) → pick (f x) ≡ []) → flat_map pick (map f xs) ≡ []
none_mapped pick f [] none = refl
none_mapped pick f (x ∷ xs) none = ap (λ l. l ++ flat_map pick (map f xs)) (none x) ∙ none_mapped pick f xs none

none_numbered : {A B : Type 0} (pick : Item → List B) (f : ℕ → A → Item) (n : ℕ) (xs : List A) → ((m : ℕ) (x : A) → pick (f m x) ≡ []) → flat_map pick (numbered f n xs) ≡ []
none_numbered pick f n [] none = refl
none_numbered pick f n (x ∷ xs) none = ap (λ l. l ++ flat_map pick (numbered f (suc n) xs)) (none n x) ∙ none_numbered pick f (suc n) xs none

-- what is picked from four parts
four_parts : {B : Type 0} (pick : Item → List B) (a b c d : List Item) → flat_map pick (a ++ (b ++ (c ++ d))) ≡ flat_map pick a ++ (flat_map pick b ++ (flat_map pick c ++ flat_map pick d))
four_parts pick a b c d = grind (arith, flat_map-append)

-- what is picked from outputs, and from latches
output_each : (lits : List Lit) → flat_map output_literal (map output_item lits) ≡ lits_of lits
output_each [] = refl
output_each (l ∷ lits) = ap (λ ls. l.0 ∷ ls) (output_each lits)

next_each : (inputs : ℕ) (next : List Lit) (k : ℕ) (latches : List FlatLatch) → k + length latches ≡ length next → flat_map next_literal (numbered (latch_item inputs next) k latches) ≡ lits_of (drop k next)
next_each inputs next k [] e = sym (ap lits_of (drop_past next k (let z : k + length {A = FlatLatch} [] ≡ length next = e in omega arith)))
next_each inputs next k (latch ∷ latches) e =
    let w : suc k + length latches ≡ length next = omega arith in
    ap (λ ls. lit_at next k ∷ ls) (next_each inputs next (suc k) latches w) ∙ sym (ap lits_of (drop-cons next k (record { 0 = 0 }) (omega arith)))

init_each : (inputs : ℕ) (next : List Lit) (k : ℕ) (latches : List FlatLatch) → flat_map init_bit (numbered (latch_item inputs next) k latches) ≡ map (λ (l : FlatLatch). l.init) latches
init_each inputs next k [] = refl
init_each inputs next k (latch ∷ latches) = ap (λ bs. latch.init ∷ bs) (init_each inputs next (suc k) latches)

-- the literals of outputs and of next states, and the states at the start, of a graph's circuit
module _ (inputs : ℕ) (latches : List FlatLatch) (g : Aig) (roots : RootsValue) where
  -- what inputs and AND gates don't give
  picked : {B : Type 0} (pick : Item → List B) → ((n : ℕ) → pick (input_item n) ≡ []) → ((n : ℕ) (p : Pair) → pick (gate_item n p) ≡ [])
      → flat_map pick (graph_items inputs latches g roots) ≡ flat_map pick (numbered (latch_item inputs roots.next) 0 latches) ++ (flat_map pick (map output_item roots.outputs) ++ [])
  picked pick of_input of_gate = grind (arith, four_parts, none_mapped, none_numbered, of_gate)

  pub output_literals_are : output_literals (graph_items inputs latches g roots) ≡ lits_of roots.outputs
  output_literals_are = grind (arith, picked, none_numbered, append-nil, output_each)

  pub next_literals_are : length roots.next ≡ length latches → next_literals (graph_items inputs latches g roots) ≡ lits_of roots.next
  next_literals_are same = grind (arith, picked, none_mapped, append-nil, next_each)

  pub init_bits_are : init_bits (graph_items inputs latches g roots) ≡ map (λ (l : FlatLatch). l.init) latches
  init_bits_are = grind (arith, picked, none_mapped, append-nil, init_each)

-- a literal among roots
among : (lits : List Lit) (k : ℕ) (l : Lit) → slice_get lits k ≡ Some l → In (lits_of lits) l.0
among lits k l e = In-map (λ (m : Lit). m.0) lits l (In-get lits k l e)

module _ (flat : FlatValue) (params : List Param) (regular : List ℕ) (g : Aig) (roots : RootsValue) (from : IsWrittenFrom flat params regular g roots) (normal : AreNormal (first_and g) g.pairs) where
  abbrev written : Circuit
  written = graph_circuit flat params regular g roots

  -- as many variables as nodes beside the constant
  nodes : node_count g ≡ 1 + written.header.variables
  nodes = let s : length g.kinds ≡ input_count regular params + length flat.latches = from.sources in omega arith

  -- literals of the graph are in range, and so are outputs and next states
  root_in : (l : ℕ) → IsLit g l → is_literal written.header.variables l ≡ true
  root_in l low = let n : node_count g ≡ 1 + written.header.variables = nodes in let b : l < 2 * node_count g = low in literal_in written.header.variables l (omega arith)

  output_in : (k : ℕ) (l : Lit) → slice_get roots.outputs k ≡ Some l → IsLit g l.0
  output_in k l e = from.literals l.0 (In-left (lits_of roots.outputs) (lits_of roots.next) l.0 (among roots.outputs k l e))

  next_in : (k : ℕ) → k < length flat.latches → is_literal written.header.variables (lit_at roots.next k) ≡ true
  next_in k low =
      let l = at_within roots.next k (omega arith) in
      subst (λ m. is_literal written.header.variables m ≡ true) (sym (lit_at-is roots.next k l.0 l.1))
      (root_in (l.0).0 (from.literals (l.0).0 (In-right (lits_of roots.outputs) (lits_of roots.next) (l.0).0 (among roots.next k l.0 l.1))))

  -- each item at its place
  placed : (p : ℕ) (item : Item) → IsGraphItem (input_count regular params) flat.latches g roots p item → IsItemAt written.header p item
  placed p item (an_input low is) = grind (arith, input_here, variable_in)
  placed p item (a_latch k latch at there is) = grind (arith, slice_get_within, variable_in, latch_here, and_from, next_in)
  placed p item (an_output k l at there is) = grind (arith, slice_get_within, output_here, root_in, output_in)
  placed p item (a_gate k pair at there is) =
      let low : k < length g.pairs = slice_get_within g.pairs k pair there in
      let kept = normal.each k pair there in
      grind (arith, gate_here, and_from)

  -- all of it
  pub written_formed : node_count g ≤ 2 ^ 30 → IsFormed written
  written_formed small =
      let o : length roots.outputs ≡ length flat.outputs = from.outputs in
      record {
        header = grind (arith, and_from, leb, le-leb);
        few = omega arith;
        count = items_count (input_count regular params) flat.latches g roots;
        items = λ p item e. placed p item (item_is (input_count regular params) flat.latches g roots p item e);
        inputs = omega (arith, length-append (map (input_at flat) regular) (map (λ (p : Param). p.name) params), length-map regular (input_at flat), length-map params (λ (p : Param). p.name));
        outputs = length-map flat.outputs (λ (p : OutPort). p.name) ∙ sym o;
      }
