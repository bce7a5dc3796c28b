-- A written netlist is orderly: each name that it reads has one driver, and its LUTs are in order.
use Rattle.blif_write.proofs.Common.{◌≡◌, ◌⊎◌, ℕ, suc, ◌+◌, ◌-◌, ◌*◌, ◌/◌, ◌%◌, ◌^◌, ◌<◌, ◌≤◌, Bool, true, false, cond, eqb, nat_le, IsTrue, List, [], ◌∷◌, ◌++◌, length, map, get_or, slice_get, bytes_eq, Some, refl, sym, ap, subst, ◌∙◌, inl, inr, arith, flat_map, map-append, leb-true, le-leb, and_parts, same_Some, bytes_eq-Decides, In, In-append, In-left, In-right, In-get, In-get_or, In-map, from_map, IsClean, AreOnce, LatchValue, CoverValue, IsWellFormedBody, OutPort, FlatValue, underscores, Param, Lit, Lut, HasLut, TemplateValue, is_regular, is_plain, false_from_ne_true, joined_apart, Cover, PlainNetlist, IsPlain, all_inputs, Naming, naming_of, own_name, table_name, latch_name, bit_name, source_name, literal_name, leaf_names, wire_of, wires, written_latches, control_names, with_tables, HasPorts, AreTablesOf, map-map, rules}
use Rattle.blif_write.proofs.PlainCycleLemmas.{IsControlName}
use Rattle.blif_write.proofs.PlainSoundLemmas.{body_output, command_outputs, IsOrderly}
use Rattle.blif_write.proofs.OwnNameLemmas.{own_under, no_port_name, own_letter, own_number, plain_even, table_literal}
use Rattle.blif_write.proofs.TableCycleLemmas.{regular_parts, name_input, latch_named, latch_written, latch_next}
use Rattle.blif_write.proofs.PartLemmas.{AreCovers, outputs_clean, later_wire, table_outputs_are, rank_in, rank_of, rank_there, in_control, control_once, regular_once, in_lines, control_named_in, own_clean, latch_output, latches_once, table_names, tables_once, IsWire, wires_there, wires_once}

module _ (flat : FlatValue) (params : List Param) (t : TemplateValue) (bits : List (List (List ℕ))) (table : Lut → CoverValue) (ports : HasPorts flat) (are : AreTablesOf flat params t)
    (covers : AreCovers (naming_of flat params) t.luts bits table) where
  abbrev g : Naming
  g = naming_of flat params

  abbrev n : PlainNetlist
  n = with_tables flat params t bits (map table t.luts)

  abbrev bit_inputs : List (List ℕ)
  bit_inputs = flat_map (λ (l : List (List ℕ)). l) bits

  abbrev latch_names : List (List ℕ)
  latch_names = map (λ (l : LatchValue). l.output) (written_latches g flat.control 0 flat.latches t.next)

  abbrev wire_names : List (List ℕ)
  wire_names = map (λ (c : CoverValue). c.output) (wires g flat.outputs t.outputs)

  small_lits : (u : Lut) → In t.luts u → u.lit.0 < 2 ^ 64
  small_lits u i = let s : u.lit.0 < 2 ^ 32 = are.small u i in omega (arith, s)

  outputs_named : command_outputs n ≡ latch_names ++ (table_names g t.luts ++ wire_names)
  outputs_named = grind (arith, g, map-append, body_output, map-map, latch_names, wire_names, table_outputs_are)

  -- of which kind the names are
  control_named : (name : List ℕ) → IsControlName n name → flat.control ≡ Some name
  control_named name c = latch_named g flat.control 0 flat.latches t.next c.latch name c.in' c.is

  own_no_control : (letter number : ℕ) (name : List ℕ) → eqb letter 95 ≡ false → name ≡ own_name g letter number → IsControlName n name → ⊥
  own_no_control letter number name h e c = no_port_name g letter number name h (ports.control name (control_named name c)).under (sym e)

  wire_is : (name : List ℕ) → In wire_names name → (o : OutPort) × In flat.outputs o × (name ≡ o.name) × (In g.regular name → ⊥)
  wire_is name i = grind (arith, g, from_map, wires_there)

  latch_is : (name : List ℕ) → In latch_names name → (j : ℕ) × (j < 2 ^ 64) × (name ≡ latch_name g j)
  latch_is name i =
      let r : (j : ℕ) × (0 ≤ j) × (j < 0 + length flat.latches) × (name ≡ latch_name g j) = latch_output g flat.control 0 flat.latches t.next name i in
      (r.0, let f : length flat.latches < 2 ^ 32 = are.few_latches in omega (arith, f, r.2), r.3)

  table_is : (name : List ℕ) → In (table_names g t.luts) name → (u : Lut) × In t.luts u × (name ≡ table_name g u.lit.0)
  table_is name i = from_map (λ (u : Lut). table_name g u.lit.0) t.luts name i

  -- each stands once
  ports_apart : (name : List ℕ) → In g.regular name → In (control_names flat.control) name → ⊥
  ports_apart name i j = ports.no_input name (in_control flat.control name j) (name_input flat params name i)

  main_port : (name : List ℕ) → In (g.regular ++ control_names flat.control) name → underscores name ≤ g.under
  main_port name i = elim (In-append g.regular (control_names flat.control) name i) [
    | inl j ↦ (ports.inputs name (name_input flat params name j)).under
    | inr j ↦ (ports.control name (in_control flat.control name j)).under
  ]

  wire_port : (name : List ℕ) → In wire_names name → underscores name ≤ g.under
  wire_port name i = grind (arith, wire_is)

  main_once : AreOnce (g.regular ++ control_names flat.control)
  main_once = joined_apart g.regular (control_names flat.control) (regular_once flat params ports.inputs_once) (control_once flat.control) ports_apart

  inputs_once : AreOnce ((g.regular ++ control_names flat.control) ++ bit_inputs)
  inputs_once = joined_apart (g.regular ++ control_names flat.control) bit_inputs main_once covers.bits_once (λ name i j.
      let b : (b : ℕ) × (b < 2 ^ 64) × (name ≡ bit_name g b) = covers.bits_own name j in
      no_port_name g 99 b.0 name refl (main_port name i) (sym b.2))

  commands_once : AreOnce (latch_names ++ (table_names g t.luts ++ wire_names))
  commands_once =
      joined_apart latch_names (table_names g t.luts ++ wire_names) (latches_once g flat.control 0 flat.latches t.next (let f : length flat.latches < 2 ^ 32 = are.few_latches in omega (arith, f)))
      (joined_apart (table_names g t.luts) wire_names (tables_once g t.luts small_lits are.playable.ascending) (wires_once g flat.outputs t.outputs ports.outputs_once)
      (λ name i j. let u : (u : Lut) × In t.luts u × (name ≡ table_name g u.lit.0) = table_is name i in no_port_name g 110 u.0.lit.0 name refl (wire_port name j) (sym u.2)))
      (λ name i j. let l : (k : ℕ) × (k < 2 ^ 64) × (name ≡ latch_name g k) = latch_is name i in
      elim (In-append (table_names g t.luts) wire_names name j) [
        | inl k ↦ let u : (u : Lut) × In t.luts u × (name ≡ table_name g u.lit.0) = table_is name k in let w : 108 ≡ 110 = own_letter g 108 110 l.0 u.0.lit.0 (sym l.2 ∙ u.2) in omega (arith, w)
        | inr k ↦ no_port_name g 108 l.0 name refl (wire_port name k) (sym l.2)
      ])

  wires_no_main : (name : List ℕ) → In wire_names name → In (g.regular ++ control_names flat.control) name → ⊥
  wires_no_main name i j =
      let r : (o : OutPort) × In flat.outputs o × (name ≡ o.name) × (In g.regular name → ⊥) = wire_is name i in
      elim (In-append g.regular (control_names flat.control) name j) [ inl k ↦ r.3 k | inr k ↦ ports.no_output name (in_control flat.control name k) r.0 r.1 (sym r.2) ]

  bits_no_command : (name : List ℕ) → In bit_inputs name → In (latch_names ++ (table_names g t.luts ++ wire_names)) name → ⊥
  bits_no_command name i j =
      let b : (b : ℕ) × (b < 2 ^ 64) × (name ≡ bit_name g b) = covers.bits_own name i in
      elim (In-append latch_names (table_names g t.luts ++ wire_names) name j) [
        | inl k ↦ let l : (k : ℕ) × (k < 2 ^ 64) × (name ≡ latch_name g k) = latch_is name k in let w : 99 ≡ 108 = own_letter g 99 108 b.0 l.0 (sym b.2 ∙ l.2) in omega (arith, w)
        | inr k ↦ elim (In-append (table_names g t.luts) wire_names name k) [
          | inl m ↦ let u : (u : Lut) × In t.luts u × (name ≡ table_name g u.lit.0) = table_is name m in let w : 99 ≡ 110 = own_letter g 99 110 b.0 u.0.lit.0 (sym b.2 ∙ u.2) in omega (arith, w)
          | inr m ↦ no_port_name g 99 b.0 name refl (wire_port name m) (sym b.2)
        ]
      ]

  main_no_command : (name : List ℕ) → In (g.regular ++ control_names flat.control) name → In (latch_names ++ (table_names g t.luts ++ wire_names)) name → ⊥
  main_no_command name i j =
      elim (In-append latch_names (table_names g t.luts ++ wire_names) name j) [
        | inl k ↦ let l : (k : ℕ) × (k < 2 ^ 64) × (name ≡ latch_name g k) = latch_is name k in no_port_name g 108 l.0 name refl (main_port name i) (sym l.2)
        | inr k ↦ elim (In-append (table_names g t.luts) wire_names name k) [
          | inl m ↦ let u : (u : Lut) × In t.luts u × (name ≡ table_name g u.lit.0) = table_is name m in no_port_name g 110 u.0.lit.0 name refl (main_port name i) (sym u.2)
          | inr m ↦ wires_no_main name m i
        ]
      ]

  all_once : AreOnce (all_inputs n ++ command_outputs n)
  all_once = subst (λ (k : List (List ℕ)). AreOnce (((g.regular ++ control_names flat.control) ++ bit_inputs) ++ k)) (sym outputs_named)
      (joined_apart ((g.regular ++ control_names flat.control) ++ bit_inputs) (latch_names ++ (table_names g t.luts ++ wire_names)) inputs_once commands_once
      (λ name i j. elim (In-append (g.regular ++ control_names flat.control) bit_inputs name i) [ inl k ↦ main_no_command name k j | inr k ↦ bits_no_command name k j ]))

  -- what a literal's name is: a regular input's, a latch's, or a table's
  data LitIs (l : ℕ) : Type 0 where
    of_input : In g.regular (literal_name g l) → LitIs l
    of_latch : (j : ℕ) → j < length flat.latches → literal_name g l ≡ latch_name g j → LitIs l
    of_table : (u : Lut) → In t.luts u → u.lit.0 ≡ l → is_plain g.shape l ≡ false → literal_name g l ≡ table_name g u.lit.0 → LitIs l

  source_is : (l m : ℕ) → is_regular g.shape m ≡ true → literal_name g l ≡ source_name g m → LitIs l
  source_is l m h e = elim (regular_parts g.shape m h) [
    | inl p ↦ let yes : nat_le m g.shape.regular ≡ true = le-leb m g.shape.regular p.1 in
        let same : source_name g m ≡ get_or g.regular (m - 1) [] = ap (λ (b : Bool). cond b (get_or g.regular (m - 1) []) (latch_name g (m - 1 - (g.shape.regular + g.shape.params)))) yes in
        of_input (subst (In g.regular) (sym (e ∙ same)) (In-get_or g.regular (m - 1) [] (omega (arith, p.0, p.1))))
    | inr p ↦ let no : nat_le m g.shape.regular ≡ false = false_from_ne_true (nat_le m g.shape.regular) (λ b. let w : m ≤ g.shape.regular = leb-true m g.shape.regular b in omega (arith, w, p.0)) in
        let same : source_name g m ≡ latch_name g (m - 1 - (g.shape.regular + g.shape.params)) = ap (λ (b : Bool). cond b (get_or g.regular (m - 1) []) (latch_name g (m - 1 - (g.shape.regular + g.shape.params)))) no in
        of_latch (m - 1 - (g.shape.regular + g.shape.params)) (omega (arith, p.0, p.1)) (e ∙ same)
  ]

  lit_by : (l : ℕ) (b : Bool) → is_plain g.shape l ≡ b → IsTrue b ⊎ HasLut t.luts l → LitIs l
  lit_by l true e h =
      source_is l (l / 2) (and_parts (eqb (l % 2) 0) (is_regular g.shape (l / 2)) e).1 (ap (λ (k : Bool). cond k (source_name g (l / 2)) (table_name g l)) e)
  lit_by l false e (inl h) = absurd (let w : false ≡ true = h in let wrong : ⊥ = cc in wrong)
  lit_by l false e (inr h) = of_table h.table h.in' h.is e (table_literal g l e ∙ ap (table_name g) (sym h.is))

  lit_is : (l : ℕ) → IsTrue (is_plain g.shape l) ⊎ HasLut t.luts l → LitIs l
  lit_is l h = lit_by l (is_plain g.shape l) refl h

  leaf_is : (u : Lut) (m : ℕ) → In t.luts u → In u.leaves m → LitIs (2 * m)
  leaf_is u m i j = elim (are.playable.leaves u m i j) [ inl h ↦ lit_is (2 * m) (inl (plain_even g.shape m ∙ h)) | inr h ↦ lit_is (2 * m) (inr (are.playable.fed u m i j h)) ]

  -- such a name is driven, is no control, and is clean
  abbrev driven : List (List ℕ)
  driven = all_inputs n ++ command_outputs n

  command_driven : (name : List ℕ) → In (latch_names ++ (table_names g t.luts ++ wire_names)) name → In driven name
  command_driven name i = In-right (all_inputs n) (command_outputs n) name (subst (λ (k : List (List ℕ)). In k name) (sym outputs_named) i)

  latch_driven : (j : ℕ) → j < length flat.latches → In latch_names (latch_name g j)
  latch_driven j small =
      let r : (l : LatchValue) × (slice_get (written_latches g flat.control 0 flat.latches t.next) j ≡ Some l) × (l.output ≡ latch_name g (0 + j)) = latch_written g flat.control 0 flat.latches t.next j are.roots.next small in
      let e : 0 + j ≡ j = omega arith in
      subst (In latch_names) (r.2 ∙ ap (latch_name g) e) (In-map (λ (l : LatchValue). l.output) (written_latches g flat.control 0 flat.latches t.next) r.0 (In-get (written_latches g flat.control 0 flat.latches t.next) j r.0 r.1))

  lit_driven : (l : ℕ) → LitIs l → In driven (literal_name g l) × (IsControlName n (literal_name g l) → ⊥)
  lit_driven l (of_input i) = (
    In-left (all_inputs n) (command_outputs n) (literal_name g l) (In-left (g.regular ++ control_names flat.control) bit_inputs (literal_name g l) (In-left g.regular (control_names flat.control) (literal_name g l) i)),
    λ c. ports.no_input (literal_name g l) (control_named (literal_name g l) c) (name_input flat params (literal_name g l) i),
  )
  lit_driven l (of_latch j small e) = (
    command_driven (literal_name g l) (In-left latch_names (table_names g t.luts ++ wire_names) (literal_name g l) (subst (In latch_names) (sym e) (latch_driven j small))),
    own_no_control 108 j (literal_name g l) refl e,
  )
  lit_driven l (of_table u i same p e) = (
    command_driven (literal_name g l) (In-right latch_names (table_names g t.luts ++ wire_names) (literal_name g l) (In-left (table_names g t.luts) wire_names (literal_name g l)
        (subst (In (table_names g t.luts)) (sym e) (In-map (λ (k : Lut). table_name g k.lit.0) t.luts u i)))),
    own_no_control 110 u.lit.0 (literal_name g l) refl e,
  )

  lit_clean : (l : ℕ) → LitIs l → IsClean (literal_name g l)
  lit_clean l (of_input i) = (ports.inputs (literal_name g l) (name_input flat params (literal_name g l) i)).clean
  lit_clean l (of_latch j small e) = subst IsClean (sym e) (own_clean g 108 j refl (let f : length flat.latches < 2 ^ 32 = are.few_latches in omega (arith, f, small)))
  lit_clean l (of_table u i same p e) = subst IsClean (sym e) (own_clean g 110 u.lit.0 refl (small_lits u i))

  bit_driven : (name : List ℕ) → In bit_inputs name → In driven name × (IsControlName n name → ⊥)
  bit_driven name i =
      let b : (b : ℕ) × (b < 2 ^ 64) × (name ≡ bit_name g b) = covers.bits_own name i in
      (In-left (all_inputs n) (command_outputs n) name (In-right (g.regular ++ control_names flat.control) bit_inputs name i), own_no_control 99 b.0 name refl b.2)

  bit_clean : (name : List ℕ) → In bit_inputs name → IsClean name
  bit_clean name i = let b : (b : ℕ) × (b < 2 ^ 64) × (name ≡ bit_name g b) = covers.bits_own name i in subst IsClean (sym b.2) (own_clean g 99 b.0 refl b.1)

  leaf_named : (u : Lut) (name : List ℕ) → In t.luts u → In (leaf_names g u) name → (m : ℕ) × In u.leaves m × (name ≡ literal_name g (2 * m)) × LitIs (2 * m)
  leaf_named u name i j =
      let r : (m : ℕ) × In u.leaves m × (name ≡ literal_name g (2 * m)) = from_map (λ (m : ℕ). literal_name g (2 * m)) u.leaves name j in
      (r.0, r.1, r.2, leaf_is u r.0 i r.1)

  output_root : (lit : Lit) → In t.outputs lit → LitIs lit.0
  output_root lit i = lit_is lit.0 (are.playable.outputs lit.0 (In-map (λ (l : Lit). l.0) t.outputs lit i))

  next_root : (lit : Lit) → In t.next lit → LitIs lit.0
  next_root lit i = lit_is lit.0 (are.playable.next lit.0 (In-map (λ (l : Lit). l.0) t.next lit i))

  -- a cover is a table's or a wire
  data CoverIs (c : CoverValue) : Type 0 where
    of_lut : (u : Lut) → In t.luts u → c ≡ table u → CoverIs c
    of_wire : IsWire g flat.outputs t.outputs c → CoverIs c

  cover_is : (c : CoverValue) → In n.covers c → CoverIs c
  cover_is c i = elim (In-append (map table t.luts) (wires g flat.outputs t.outputs) c i) [
    | inl j ↦ let r : (u : Lut) × In t.luts u × (c ≡ table u) = from_map table t.luts c j in of_lut r.0 r.1 r.2
    | inr j ↦ of_wire (wires_there g flat.outputs t.outputs c are.fed j)
  ]

  root_named : (l : ℕ) (name : List ℕ) → LitIs l → In (literal_name g l ∷ []) name → (In driven name × (IsControlName n name → ⊥)) × IsClean name
  root_named l name h (inl e) = subst (λ (o : List ℕ). (In driven o × (IsControlName n o → ⊥)) × IsClean o) (sym e) (lit_driven l h, lit_clean l h)
  root_named l name h (inr i) = elim i [ ]

  inputs_by : (c : CoverValue) → CoverIs c → (name : List ℕ) → In c.inputs name → (In driven name × (IsControlName n name → ⊥)) × IsClean name
  inputs_by c (of_lut u i e) name j = elim (covers.inputs u i name (subst (λ (d : CoverValue). In d.inputs name) e j)) [
    | inl k ↦ let r : (m : ℕ) × In u.leaves m × (name ≡ literal_name g (2 * m)) × LitIs (2 * m) = leaf_named u name i k in
        subst (λ (o : List ℕ). (In driven o × (IsControlName n o → ⊥)) × IsClean o) (sym r.2) (lit_driven (2 * r.0) r.3, lit_clean (2 * r.0) r.3)
    | inr k ↦ (bit_driven name k, bit_clean name k)
  ]
  inputs_by c (of_wire w) name j =
      root_named w.root.0 name (output_root w.root w.root_in) (subst (λ (d : CoverValue). In d.inputs name) w.is j)

  table_rank : (u : Lut) → In t.luts u → rank_of g t.luts (table_name g u.lit.0) ≡ suc u.lit.0
  table_rank u i =
      let many : underscores (table_name g u.lit.0) ≡ suc g.under = own_under g 110 u.lit.0 refl in
      let no : nat_le (underscores (table_name g u.lit.0)) g.under ≡ false = false_from_ne_true (nat_le (underscores (table_name g u.lit.0)) g.under) (λ b. let w : underscores (table_name g u.lit.0) ≤ g.under = leb-true (underscores (table_name g u.lit.0)) g.under b in omega (arith, w, many)) in
      ap (λ (b : Bool). cond b (2 ^ 33) (rank_in g t.luts (table_name g u.lit.0))) no ∙ rank_there g t.luts u small_lits i

  wire_under : (c : CoverValue) → IsWire g flat.outputs t.outputs c → underscores c.output ≤ g.under
  wire_under c w = subst (λ (k : List ℕ). underscores k ≤ g.under) (sym (ap (λ (d : CoverValue). d.output) w.is)) (ports.outputs w.output w.output_in).under

  table_under : (u : Lut) (c : CoverValue) → In t.luts u → c ≡ table u → c.output ≡ table_name g u.lit.0
  table_under u c i e = ap (λ (d : CoverValue). d.output) e ∙ covers.output u

  -- no literal's name is a wire's output
  lit_no_wire : (l : ℕ) (c : CoverValue) → LitIs l → IsWire g flat.outputs t.outputs c → c.output ≡ literal_name g l → ⊥
  lit_no_wire l c (of_input i) w e = grind arith
  lit_no_wire l c (of_latch j small f) w e = no_port_name g 108 j c.output refl (wire_under c w) (sym (e ∙ f))
  lit_no_wire l c (of_table u i same p f) w e = no_port_name g 110 u.lit.0 c.output refl (wire_under c w) (sym (e ∙ f))

  -- a literal with a table's name is the table's, and it is no source's
  lit_table : (l : ℕ) (w : Lut) → LitIs l → In t.luts w → table_name g w.lit.0 ≡ literal_name g l → (w.lit.0 ≡ l) × (is_plain g.shape l ≡ false)
  lit_table l w (of_input i) k e = absurd (no_port_name g 110 w.lit.0 (literal_name g l) refl (ports.inputs (literal_name g l) (name_input flat params (literal_name g l) i)).under e)
  lit_table l w (of_latch j small f) k e = absurd (let x : 110 ≡ 108 = own_letter g 110 108 w.lit.0 j (e ∙ f) in omega (arith, x))
  lit_table l w (of_table u i same p f) k e = (own_number g 110 w.lit.0 u.lit.0 (small_lits w k) (small_lits u i) (e ∙ f) ∙ same, p)

  leaf_below : (u : Lut) (m : ℕ) → In t.luts u → In u.leaves m → is_plain g.shape (2 * m) ≡ false → suc (2 * m) < suc u.lit.0
  leaf_below u m i j unplain = search (rules, plain_even)

  falls_by : (c d : CoverValue) → CoverIs c → CoverIs d → In c.inputs d.output → rank_of g t.luts d.output < rank_of g t.luts c.output
  falls_by c d (of_lut u i e) (of_lut w k f) j =
      let own : d.output ≡ table_name g w.lit.0 = table_under w d k f in
      elim (covers.inputs u i d.output (subst (λ (o : CoverValue). In o.inputs d.output) e j)) [
        | inl q ↦ let r : (m : ℕ) × In u.leaves m × (d.output ≡ literal_name g (2 * m)) × LitIs (2 * m) = leaf_named u d.output i q in
            let s : (w.lit.0 ≡ 2 * r.0) × (is_plain g.shape (2 * r.0) ≡ false) = lit_table (2 * r.0) w r.3 k (sym own ∙ r.2) in
            let b : suc (2 * r.0) < suc u.lit.0 = leaf_below u r.0 i r.1 s.1 in
            omega (arith, b, s.0, ap (rank_of g t.luts) (table_under u c i e) ∙ table_rank u i, ap (rank_of g t.luts) own ∙ table_rank w k)
        | inr q ↦ let b : (b : ℕ) × (b < 2 ^ 64) × (d.output ≡ bit_name g b) = covers.bits_own d.output q in
            absurd (let x : 110 ≡ 99 = own_letter g 110 99 w.lit.0 b.0 (sym own ∙ b.2) in omega (arith, x))
      ]
  falls_by c d (of_lut u i e) (of_wire w) j = elim (covers.inputs u i d.output (subst (λ (o : CoverValue). In o.inputs d.output) e j)) [
    | inl q ↦ let r : (m : ℕ) × In u.leaves m × (d.output ≡ literal_name g (2 * m)) × LitIs (2 * m) = leaf_named u d.output i q in absurd (lit_no_wire (2 * r.0) d r.3 w r.2)
    | inr q ↦ let b : (b : ℕ) × (b < 2 ^ 64) × (d.output ≡ bit_name g b) = covers.bits_own d.output q in absurd (no_port_name g 99 b.0 d.output refl (wire_under d w) (sym b.2))
  ]
  falls_by c d (of_wire v) (of_lut w k f) j = grind (arith, rank_of, g, cond, rank_in, le-leb, wire_under, table_under, table_rank)
  falls_by c d (of_wire v) (of_wire w) j =
      elim (subst (λ (o : CoverValue). In o.inputs d.output) v.is j) [ inl e ↦ absurd (lit_no_wire v.root.0 d (output_root v.root v.root_in) w e) | inr q ↦ elim q [ ] ]

  -- the netlist is plain
  main_clean : (name : List ℕ) → In (g.regular ++ control_names flat.control) name → IsClean name
  main_clean name i = elim (In-append g.regular (control_names flat.control) name i) [
    | inl j ↦ (ports.inputs name (name_input flat params name j)).clean
    | inr j ↦ (ports.control name (in_control flat.control name j)).clean
  ]

  line_clean : (names : List (List ℕ)) → In n.inputs names → (name : List ℕ) → In names name → IsClean name
  line_clean names (inl e) name j = main_clean name (subst (λ (k : List (List ℕ)). In k name) e j)
  line_clean names (inr i) name j = bit_clean name (in_lines bits names name i j)

  latch_clean : (l : LatchValue) → In n.latches l → IsClean l.input × IsClean l.output × ((control : List ℕ) → l.control ≡ Some control → IsClean control)
  latch_clean l i =
      let r : (lit : Lit) × In t.next lit × (l.input ≡ literal_name g lit.0) × ((c : List ℕ) → l.control ≡ Some c → flat.control ≡ Some c) = latch_next g flat.control 0 flat.latches t.next l i in
      let o : (j : ℕ) × (j < 2 ^ 64) × (l.output ≡ latch_name g j) = latch_is l.output (In-map (λ (k : LatchValue). k.output) n.latches l i) in
      (subst IsClean (sym r.2) (lit_clean r.0.0 (next_root r.0 r.1)), subst IsClean (sym o.2) (own_clean g 108 o.0 refl o.1), λ control e. (ports.control control (r.3 control e)).clean)

  output_clean_by : (c : CoverValue) → CoverIs c → IsClean c.output
  output_clean_by c (of_lut u i e) = subst IsClean (sym (table_under u c i e)) (own_clean g 110 u.lit.0 refl (small_lits u i))
  output_clean_by c (of_wire w) = subst IsClean (sym (ap (λ (d : CoverValue). d.output) w.is)) (ports.outputs w.output w.output_in).clean

  on_by : (c : CoverValue) → CoverIs c → c.value ≡ true
  on_by c h = search rules

  cells_by : (c : CoverValue) → CoverIs c → IsWellFormedBody (Cover c)
  cells_by c h = grind arith

  plain : IsPlain n
  plain = record {
    name = ports.model;
    inputs = line_clean;
    inputs_once = inputs_once;
    outputs = outputs_clean flat.outputs (λ o i. (ports.outputs o i).clean);
    outputs_once = ports.outputs_once;
    latches = latch_clean;
    covers = λ c i. (λ name j. (inputs_by c (cover_is c i) name j).1, output_clean_by c (cover_is c i));
    on = λ c i. on_by c (cover_is c i);
    cells = λ c i. cells_by c (cover_is c i);
  }

  -- an output is a wire's, or has its root's name
  output_by : (o : OutPort) (lit : Lit) (os : List OutPort) (lits : List Lit) (same : Bool) → bytes_eq o.name (literal_name g lit.0) ≡ same → LitIs lit.0
      → ((name : List ℕ) → In (map (λ (c : CoverValue). c.output) (cond same [] (wire_of (literal_name g lit.0) o.name ∷ []) ++ wires g os lits)) name → In wire_names name) → (name : List ℕ) → name ≡ o.name → In driven name
  output_by o lit os lits true e root within name f = subst (In driven) (sym (f ∙ (bytes_eq-Decides o.name (literal_name g lit.0)).0 e)) (lit_driven lit.0 root).0
  output_by o lit os lits false e root within name f =
      command_driven name (In-right latch_names (table_names g t.luts ++ wire_names) name (In-right (table_names g t.luts) wire_names name (within name (inl f))))

  output_no_control : (name : List ℕ) → In (map (λ (o : OutPort). o.name) flat.outputs) name → IsControlName n name → ⊥
  output_no_control name i c =
      let r : (o : OutPort) × In flat.outputs o × (name ≡ o.name) = from_map (λ (o : OutPort). o.name) flat.outputs name i in
      ports.no_output name (control_named name c) r.0 r.1 (sym r.2)

  output_driven : (os : List OutPort) (lits : List Lit) → length lits ≡ length os → ((lit : Lit) → In lits lit → LitIs lit.0) → ((name : List ℕ) → In (map (λ (c : CoverValue). c.output) (wires g os lits)) name → In wire_names name)
      → (name : List ℕ) → In (map (λ (o : OutPort). o.name) os) name → In driven name
  output_driven (o ∷ os) (lit ∷ lits) same roots within name (inl e) =
      output_by o lit os lits (bytes_eq o.name (literal_name g lit.0)) refl (roots lit (inl refl)) within name e
  output_driven (o ∷ os) (lit ∷ lits) same roots within name (inr i) = grind (arith, later_wire, g, output_driven os lits (omega (arith, same)) (λ k j. roots k (inr j)) (λ k j. within k (later_wire g o lit os lits k j)) name i)
  output_driven os lits same roots within name i = search rules

  pub orderly : IsOrderly n
  orderly = record {
    plain = plain;
    once = all_once;
    cover_inputs = λ c i name j. (inputs_by c (cover_is c i) name j).0;
    latch_inputs = λ l i.
        let r : (lit : Lit) × In t.next lit × (l.input ≡ literal_name g lit.0) × ((c : List ℕ) → l.control ≡ Some c → flat.control ≡ Some c) = latch_next g flat.control 0 flat.latches t.next l i in
        subst (λ (o : List ℕ). In driven o × (IsControlName n o → ⊥)) (sym r.2) (lit_driven r.0.0 (next_root r.0 r.1));
    outputs = λ name i. (output_driven flat.outputs t.outputs are.roots.outputs output_root (λ k j. j) name i, output_no_control name i);
    controls = λ name c. In-left (g.regular ++ control_names flat.control) bit_inputs name (In-right g.regular (control_names flat.control) name (control_named_in flat.control name (control_named name c)));
    one_control = λ name other c d. same_Some name other (sym (control_named name c) ∙ control_named other d);
    rank = rank_of g t.luts;
    falls = λ c d i k j. falls_by c d (cover_is c i) (cover_is d k) j;
  }
