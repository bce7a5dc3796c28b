-- The cycles of a written netlist are those of its LUTs. Its inputs, read again: the regular ones, a control `NIL`, and the configuration bits.
use Rattle.blif_write.proofs.Common.{◌≡◌, ◌⊎◌, ℕ, zero, suc, ◌+◌, ◌-◌, ◌*◌, ◌^◌, ◌<◌, ◌≤◌, Bool, true, false, cond, ◌&&◌, ◌||◌, nat_le, nat_lt, not, List, [], ◌∷◌, ◌++◌, length, map, get_or, slice_get, slice_index_or, bytes_eq, codes, Option, Some, None, refl, sym, ap, subst, ◌∙◌, inl, inr, arith, flat_map, range_with_len, map-append, length-map, get_or-map, leb-true, le-leb, get_or-map-range_with_len, length-map-range_with_len, bytes_eq-Decides, In, number, number-small, In-get_or, In-left, In-right, In-filter, LatchValue, CoverValue, cover_value, some_row, OutPort, FlatLatch, FlatValue, Param, regular_names, param_names, has_name, Lit, lits_of, Lut, TemplateValue, bits_of, Shape, last_source, is_regular, source_value, leaf_values, address, IsTableCycle, false_from_ne_true, map-map, read_control, Naming, naming_of, table_name, latch_name, bit_name, source_name, literal_name, leaf_names, bit_names, fixed_rows, tunable_rows, fixed_table, tunable_table, wire_of, wire, wires, clock_of, written_latch, written_latches, control_names, with_tables, HasPorts, AreTablesOf, input_bits, if◌then◌else◌, filter, ap₂, append_assoc, sum_by-cons, same_Some, place_in, ranges_join, ModelValue, TellsClocks, IsFlat, main_input, controls, HaveBases, PlainNetlist, all_inputs, read_latch, library_of, free_control, cases_Bool, In-map, rules}
use Rattle.cover_pick.proofs.BitsLemmas.{base_within}
use Rattle.blif_write.proofs.PlainCycleLemmas.{not_clock, IsControlName, PlainFits, main_there, only_top, latch_at_top}
use Rattle.blif_write.proofs.RowLemmas.{fixed_value, tunable_value}
use Rattle.blif_write.proofs.OwnNameLemmas.{no_port_name, source_literal, table_literal}
use Rattle.std.proofs.lemmas.List.Elements.{filter-append}
use Rattle.blif_write.proofs.PartLemmas.{control_named_in, in_lines}

-- the latches of a written netlist
pub latch_written : (g : Naming) (control : Option (List ℕ)) (ordinal : ℕ) (ls : List FlatLatch) (nexts : List Lit) (j : ℕ) → length nexts ≡ length ls → j < length ls
    → (l : LatchValue) × (slice_get (written_latches g control ordinal ls nexts) j ≡ Some l) × (l.output ≡ latch_name g (ordinal + j))
latch_written g control ordinal (l ∷ ls) (next ∷ nexts) zero same small = let e : ordinal ≡ ordinal + 0 = omega arith in (written_latch g control ordinal l next, refl, ap (latch_name g) e)
latch_written g control ordinal (l ∷ ls) (next ∷ nexts) (suc j) same small = grind (arith, g, latch_written g control (suc ordinal) ls nexts j (omega (arith, same)) (omega (arith, small)))
latch_written g control ordinal ls nexts j same small = search rules

latch_inputs_are : (g : Naming) (value : List ℕ → Bool) (control : Option (List ℕ)) (ordinal : ℕ) (ls : List FlatLatch) (nexts : List Lit) → length nexts ≡ length ls
    → map (λ (l : LatchValue). value l.input) (written_latches g control ordinal ls nexts) ≡ map (λ lit. value (literal_name g lit)) (lits_of nexts)
latch_inputs_are g value control ordinal [] [] same = refl
latch_inputs_are g value control ordinal (l ∷ ls) (next ∷ nexts) same = grind (arith, g, latch_inputs_are g value control (suc ordinal) ls nexts (omega (arith, same)))
latch_inputs_are g value control ordinal ls nexts same = absurd (omega (arith, same))

-- the control of a written latch is the flat circuit's
named_by : (own name : List ℕ) (nil : Bool) → cond nil None (Some own) ≡ Some name → Some own ≡ Some name
named_by own name nil e = grind arith

read_given : (control : Option (List ℕ)) (name : List ℕ) → read_control control ≡ Some name → control ≡ Some name
read_given control name e = grind arith

clock_given : (control : Option (List ℕ)) (clocked : Bool) (name : List ℕ) → clock_of control clocked ≡ Some name → control ≡ Some name
clock_given control clocked name e = grind arith

pub latch_next : (g : Naming) (control : Option (List ℕ)) (ordinal : ℕ) (ls : List FlatLatch) (nexts : List Lit) (l : LatchValue) → In (written_latches g control ordinal ls nexts) l
    → (lit : Lit) × In nexts lit × (l.input ≡ literal_name g lit.0) × ((name : List ℕ) → l.control ≡ Some name → control ≡ Some name)
latch_next g control ordinal (k ∷ ls) (next ∷ nexts) l (inl e) = (next, inl refl, ap (λ (m : LatchValue). m.input) e, λ c f. clock_given control k.clocked c (sym (ap (λ (m : LatchValue). m.control) e) ∙ f))
latch_next g control ordinal (k ∷ ls) (next ∷ nexts) l (inr i) = grind (arith, g, latch_next g control (suc ordinal) ls nexts l i)
latch_next g control ordinal ls nexts l i = elim i [ ]

pub latch_named : (g : Naming) (control : Option (List ℕ)) (ordinal : ℕ) (ls : List FlatLatch) (nexts : List Lit) (l : LatchValue) (name : List ℕ) → In (written_latches g control ordinal ls nexts) l → read_control l.control ≡ Some name → control ≡ Some name
latch_named g control ordinal ls nexts l name i e = (latch_next g control ordinal ls nexts l i).3 name (read_given l.control name e)

-- outputs
or_none : (b : Bool) → ((b && true) || false) ≡ b
or_none b = grind arith

wire_by : (root name : List ℕ) (value : List ℕ → Bool) (same : Bool) → bytes_eq name root ≡ same → ((c : CoverValue) → In (cond same [] (wire_of root name ∷ [])) c → value c.output ≡ cover_value c (map value c.inputs)) → value name ≡ value root
wire_by root name value true e h = ap value ((bytes_eq-Decides name root).0 e)
wire_by root name value false e h = h (wire_of root name) (inl refl) ∙ or_none (value root)

wire_value : (root name : List ℕ) (value : List ℕ → Bool) → ((c : CoverValue) → In (wire root name) c → value c.output ≡ cover_value c (map value c.inputs)) → value name ≡ value root
wire_value root name value h = wire_by root name value (bytes_eq name root) refl h

outputs_are_roots : (g : Naming) (value : List ℕ → Bool) (os : List OutPort) (lits : List Lit) → length lits ≡ length os → ((c : CoverValue) → In (wires g os lits) c → value c.output ≡ cover_value c (map value c.inputs))
    → map value (map (λ (o : OutPort). o.name) os) ≡ map (λ lit. value (literal_name g lit)) (lits_of lits)
outputs_are_roots g value [] [] same h = refl
outputs_are_roots g value (o ∷ os) (lit ∷ lits) same h =
    ap (λ (b : Bool). b ∷ map value (map (λ (p : OutPort). p.name) os)) (wire_value (literal_name g lit.0) o.name value (λ c i. h c (In-left (wire (literal_name g lit.0) o.name) (wires g os lits) c i)))
    ∙ ap (λ (t : List Bool). value (literal_name g lit.0) ∷ t) (outputs_are_roots g value os lits (omega (arith, same)) (λ c i. h c (In-right (wire (literal_name g lit.0) o.name) (wires g os lits) c i)))
outputs_are_roots g value os lits same h = absurd (omega (arith, same))

-- small facts on lists
pub in_all : {A B : Type 0} (f : A → List B) (xs : List A) (x : A) (y : B) → In xs x → In (f x) y → In (flat_map (λ (t : List B). t) (map f xs)) y
in_all f xs x y i j = in_lines (map f xs) (f x) y (In-map f xs x i) j

-- the sources
parts_by : (shape : Shape) (n : ℕ) (first : Bool) → (nat_le 1 n && nat_le n shape.regular) ≡ first → (first || (nat_lt (shape.regular + shape.params) n && nat_le n (last_source shape))) ≡ true
    → ((1 ≤ n) × (n ≤ shape.regular)) ⊎ ((shape.regular + shape.params < n) × (n ≤ last_source shape))
parts_by shape n first e h = grind arith

pub regular_parts : (shape : Shape) (n : ℕ) → is_regular shape n ≡ true → ((1 ≤ n) × (n ≤ shape.regular)) ⊎ ((shape.regular + shape.params < n) × (n ≤ last_source shape))
regular_parts shape n h = parts_by shape n (nat_le 1 n && nat_le n shape.regular) refl h

pub name_input : (flat : FlatValue) (params : List Param) (name : List ℕ) → In (regular_names flat params) name → In flat.inputs name
name_input flat params name i = (In-filter (λ (other : List ℕ). not (has_name (param_names params) other)) flat.inputs name i).0

past_regular : (n r : ℕ) → r < n → nat_le n r ≡ false
past_regular n r h = false_from_ne_true (nat_le n r) (λ t. let e : n ≤ r = leb-true n r t in omega (arith, e, h))

-- the control of a written netlist is the flat circuit's
control_is : (flat : FlatValue) (params : List Param) (t : TemplateValue) (bits : List (List (List ℕ))) (tables : List CoverValue) (name : List ℕ) → IsControlName (with_tables flat params t bits tables) name → flat.control ≡ Some name
control_is flat params t bits tables name c = latch_named (naming_of flat params) flat.control 0 flat.latches t.next c.latch name c.in' c.is

module _ (flat : FlatValue) (params : List Param) (t : TemplateValue) (bits : List (List (List ℕ))) (tables : List CoverValue) (ports : HasPorts flat) (are : AreTablesOf flat params t)
    (x : List ℕ → Bool) (s : List Bool) (value : List ℕ → Bool) (fits : PlainFits (with_tables flat params t bits tables) x s value) where
  abbrev named : Naming
  named = naming_of flat params

  regular_fit : (i : ℕ) → i < length named.regular → value (get_or named.regular i []) ≡ x (get_or named.regular i [])
  regular_fit i small =
      let name : List ℕ = get_or named.regular i [] in
      let there : In named.regular name = In-get_or named.regular i [] small in
      fits.inputs name (In-left (named.regular ++ control_names flat.control) (flat_map (λ (l : List (List ℕ)). l) bits) name (In-left named.regular (control_names flat.control) name there))
      (λ c. ports.no_input name (control_is flat params t bits tables name c) (name_input flat params name there))

  bit_fit : (b : ℕ) → In (flat_map (λ (l : List (List ℕ)). l) bits) (bit_name named b) → value (bit_name named b) ≡ x (bit_name named b)
  bit_fit b there =
      fits.inputs (bit_name named b) (In-right (named.regular ++ control_names flat.control) (flat_map (λ (l : List (List ℕ)). l) bits) (bit_name named b) there)
      (λ c. no_port_name named 99 b (bit_name named b) refl (ports.control (bit_name named b) (control_is flat params t bits tables (bit_name named b) c)).under refl)

  latch_fit : (j : ℕ) → j < length flat.latches → value (latch_name named j) ≡ slice_index_or s j false
  latch_fit j small =
      let r : (l : LatchValue) × (slice_get (written_latches named flat.control 0 flat.latches t.next) j ≡ Some l) × (l.output ≡ latch_name named (0 + j)) = latch_written named flat.control 0 flat.latches t.next j are.roots.next small in
      ap value (sym (r.2 ∙ ap (latch_name named) (omega arith))) ∙ fits.latches j r.0 r.1

  source_fit : (n : ℕ) → is_regular named.shape n ≡ true → value (source_name named n) ≡ source_value named.shape (map x named.regular) s n
  source_fit n h = search (rules, regular_parts, n, nat_le, le-leb, cond, named, regular_fit, get_or-map, slice_index_or, past_regular, latch_fit)

  -- the values of the literals
  abbrev valued : ℕ → Bool
  valued lit = value (literal_name named lit)

  pub table_cycle : (config outputs next : List Bool) → outputs ≡ map value (map (λ (o : OutPort). o.name) flat.outputs) → next ≡ map (λ (l : LatchValue). value l.input) (written_latches named flat.control 0 flat.latches t.next)
      → ((u : Lut) → In t.luts u → value (table_name named u.lit.0) ≡ slice_index_or config (address valued u) false)
      → IsTableCycle t named.shape config (map x named.regular) s outputs next
  table_cycle config outputs next o n tabled = record {
    value = valued;
    fits = record {
      source = λ m h. ap value (source_literal named m h) ∙ source_fit m h;
      table = λ u i h. ap value (table_literal named u.lit.0 h) ∙ tabled u i;
    };
    outputs_are = o ∙ outputs_are_roots named value flat.outputs t.outputs are.roots.outputs (λ c i. fits.covers c (In-right tables (wires named flat.outputs t.outputs) c i));
    next_are = n ∙ latch_inputs_are named value flat.control 0 flat.latches t.next are.roots.next;
  }

  leaves_valued : (u : Lut) → map value (leaf_names named u) ≡ leaf_values valued u.leaves
  leaves_valued u = map-map value (λ (m : ℕ). literal_name named (2 * m)) u.leaves

  pub fixed_valued : (config : List Bool) (u : Lut) → In tables (fixed_table named config u) → value (table_name named u.lit.0) ≡ slice_index_or config (address valued u) false
  fixed_valued config u i =
      fits.covers (fixed_table named config u) (In-left tables (wires named flat.outputs t.outputs) (fixed_table named config u) i)
      ∙ ap (some_row (fixed_rows config u.base (length u.leaves))) (leaves_valued u)
      ∙ ap (λ (k : ℕ). some_row (fixed_rows config u.base k) (leaf_values valued u.leaves)) (sym (length-map u.leaves (λ (m : ℕ). valued (2 * m))))
      ∙ fixed_value config u.base (leaf_values valued u.leaves)

  pub tunable_valued : (u : Lut) → In t.luts u → In tables (tunable_table named u) → ((b : ℕ) → u.base ≤ b → b < u.base + 2 ^ length u.leaves → In (flat_map (λ (l : List (List ℕ)). l) bits) (bit_name named b))
      → value (table_name named u.lit.0) ≡ slice_index_or (input_bits named t.bits x) (address valued u) false
  tunable_valued u there i input =
      let ins : List Bool = leaf_values valued u.leaves in
      let count : length ins ≡ length u.leaves = length-map u.leaves (λ (m : ℕ). valued (2 * m)) in
      let chosen : List Bool = map value (bit_names named u) in
      let own : chosen ≡ map (λ b. value (bit_name named b)) (range_with_len u.base (2 ^ length u.leaves)) = map-map value (bit_name named) (range_with_len u.base (2 ^ length u.leaves)) in
      let small : number ins < 2 ^ length u.leaves = subst (λ (k : ℕ). number ins < 2 ^ k) count (number-small ins) in
      let b : ℕ = u.base + number ins in
      fits.covers (tunable_table named u) (In-left tables (wires named flat.outputs t.outputs) (tunable_table named u) i)
      ∙ ap (some_row (tunable_rows (length u.leaves))) (map-append value (leaf_names named u) (bit_names named u))
      ∙ ap (λ (l : List Bool). some_row (tunable_rows (length u.leaves)) (l ++ chosen)) (leaves_valued u)
      ∙ ap (λ (k : ℕ). some_row (tunable_rows k) (ins ++ chosen)) (sym count)
      ∙ tunable_value ins chosen (ap length own ∙ length-map-range_with_len (λ b. value (bit_name named b)) u.base (2 ^ length u.leaves) ∙ ap (λ (k : ℕ). 2 ^ k) (sym count))
      ∙ ap (λ (l : List Bool). get_or l (number ins) false) own
      ∙ get_or-map-range_with_len (λ c. value (bit_name named c)) u.base (2 ^ length u.leaves) (number ins) b false small refl
      ∙ bit_fit b (input b (omega arith) (omega (arith, small)))
      ∙ sym (get_or-map-range_with_len (λ c. x (bit_name named c)) 0 t.bits b b false (omega (arith, small, base_within 0 t.luts u are.playable.bases there, are.playable.sum)) (omega arith))

-- names that are no clocks stay
kept_all : (test : List ℕ → Bool) (names : List (List ℕ)) → ((name : List ℕ) → In names name → test name ≡ false) → filter (λ name. not (test name)) names ≡ names
kept_all test [] h = refl
kept_all test (name ∷ names) h = rw (h name (inl refl)) (ap (λ (t : List (List ℕ)). name ∷ t) (kept_all test names (λ other i. h other (inr i))))

-- a clocked latch is written with the control
clocked_written : (g : Naming) (control : Option (List ℕ)) (ordinal : ℕ) (ls : List FlatLatch) (nexts : List Lit) (l : FlatLatch) → length nexts ≡ length ls → In ls l → l.clocked ≡ true
    → (k : LatchValue) × In (written_latches g control ordinal ls nexts) k × (k.control ≡ control)
clocked_written g control ordinal (m ∷ ls) (next ∷ nexts) l same (inl e) c =
    (written_latch g control ordinal m next, inl refl, ap (clock_of control) (sym (ap (λ (k : FlatLatch). k.clocked) e) ∙ c))
clocked_written g control ordinal (m ∷ ls) (next ∷ nexts) l same (inr i) c = grind (arith, g, clocked_written g control (suc ordinal) ls nexts l (omega (arith, same)) i c)
clocked_written g control ordinal ls nexts l same i c = search rules

-- a control that is read isn't `NIL`
unless_nil : (own name : List ℕ) (b : Bool) → bytes_eq own (codes "NIL") ≡ b → (if b then None else Some own) ≡ Some name → bytes_eq name (codes "NIL") ≡ false
unless_nil own name b f e = grind arith

read_named : (control : Option (List ℕ)) (name : List ℕ) → read_control control ≡ Some name → bytes_eq name (codes "NIL") ≡ false
read_named control name e = grind arith

-- the configuration bits in the order of their addresses
pub bits_in_order : (g : Naming) (b : ℕ) (luts : List Lut) → HaveBases b luts → flat_map (λ (l : List (List ℕ)). l) (map (bit_names g) luts) ≡ map (bit_name g) (range_with_len b (bits_of luts))
bits_in_order g b [] h = refl
bits_in_order g b (t ∷ ts) h =
    let sum : bits_of (t ∷ ts) ≡ _ + bits_of ts = sum_by-cons (λ (k : Lut). 2 ^ length k.leaves) t ts in
    grind (arith, g, map-append, ranges_join, bits_in_order g (b + _) ts h.1)

module _ (flat : FlatValue) (params : List Param) (t : TemplateValue) (bits : List (List (List ℕ))) (tables : List CoverValue) (ports : HasPorts flat) (nexts : length t.next ≡ length flat.latches) where
  abbrev g : Naming
  g = naming_of flat params

  abbrev n : PlainNetlist
  n = with_tables flat params t bits tables

  abbrev bit_inputs : List (List ℕ)
  bit_inputs = flat_map (λ (l : List (List ℕ)). l) bits

  control_there : (own : List ℕ) → flat.control ≡ Some own → bytes_eq own (codes "NIL") ≡ false → IsControlName n own
  control_there own e f =
      let l : (l : FlatLatch) × In flat.latches l × (l.clocked ≡ true) = ports.clocked own e in
      let k : (k : LatchValue) × In n.latches k × (k.control ≡ flat.control) = clocked_written g flat.control 0 flat.latches t.next l.0 nexts l.1 l.2 in
      record { latch = k.0; in' = k.1; is = ap read_control (k.2 ∙ e) ∙ ap (λ (b : Bool). if b then None else Some own) f }

  module _ (test : List ℕ → Bool) (tells : TellsClocks (library_of n) test) where
    no_clock : (name : List ℕ) → (IsControlName n name → ⊥) → test name ≡ false
    no_clock name h = not_clock n test tells name h

    a_clock : (name : List ℕ) → In (all_inputs n) name → IsControlName n name → test name ≡ true
    a_clock name i c = elim (cases_Bool (test name)) [
      | inl e ↦ e
      | inr e ↦ let p : (j : ℕ) × (slice_get n.latches j ≡ Some c.latch) = place_in n.latches c.latch c.in' in
          absurd (tells.no name e (controls [] p.0 (read_latch c.latch) name (latch_at_top n p.0 c.latch p.1) c.is (main_input refl (main_there n name i) refl)))
    ]

    regular_kept : filter (λ name. not (test name)) g.regular ≡ g.regular
    regular_kept = kept_all test g.regular (λ name i. no_clock name (λ c. ports.no_input name (control_is flat params t bits tables name c) (name_input flat params name i)))

    unless : (own : List ℕ) (b : Bool) → flat.control ≡ Some own → bytes_eq own (codes "NIL") ≡ b → filter (λ name. not (test name)) (own ∷ []) ≡ (if b then own ∷ [] else [])
    unless own true e f = kept_all test (own ∷ []) (λ name i. no_clock name (λ c.
        let same : own ≡ name = same_Some own name (sym e ∙ control_is flat params t bits tables name c) in
        let wrong : true ≡ false = sym f ∙ ap (λ (k : List ℕ). bytes_eq k (codes "NIL")) same ∙ read_named c.latch.control name c.is in
        let no : ⊥ = cc in
        no))
    unless own false e f =
        let here : In (all_inputs n) own = In-left (g.regular ++ control_names flat.control) bit_inputs own (In-right g.regular (control_names flat.control) own (control_named_in flat.control own e)) in
        rw (a_clock own here (control_there own e f)) refl

    control_kept : (control : Option (List ℕ)) → flat.control ≡ control → filter (λ name. not (test name)) (control_names control) ≡ free_control control
    control_kept None e = refl
    control_kept (Some own) e = unless own (bytes_eq own (codes "NIL")) e refl

    bits_kept : ((name : List ℕ) → In bit_inputs name → (b : ℕ) × (b < 2 ^ 64) × (name ≡ bit_name g b)) → filter (λ name. not (test name)) bit_inputs ≡ bit_inputs
    bits_kept own = kept_all test bit_inputs (λ name i. no_clock name (λ c. no_port_name g 99 (own name i).0 name refl (ports.control name (control_is flat params t bits tables name c)).under (sym (own name i).2)))

  -- the inputs of its flat circuit
  pub inputs_again : ((name : List ℕ) → In bit_inputs name → (b : ℕ) × (b < 2 ^ 64) × (name ≡ bit_name g b)) → (again : FlatValue) → IsFlat (library_of n) again
      → again.inputs ≡ g.regular ++ (free_control flat.control ++ bit_inputs)
  inputs_again own again h =
      let off : List ℕ → Bool = λ name. not (h.test name) in
      h.inputs ∙ (ap (λ (m : ModelValue). filter off m.inputs) (only_top n [] h.main h.is_main).1) ∙ filter-append off (g.regular ++ control_names flat.control) bit_inputs
      ∙ ap₂ (λ (a b : List (List ℕ)). a ++ b)
      (filter-append off g.regular (control_names flat.control) ∙ ap₂ (λ (a b : List (List ℕ)). a ++ b) (regular_kept h.test h.tells) (control_kept h.test h.tells flat.control refl))
      (bits_kept h.test h.tells own)
      ∙ append_assoc g.regular (free_control flat.control) bit_inputs
