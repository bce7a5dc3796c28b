-- What the two written netlists mean.
use Rattle.blif_write.proofs.Common.{◌≡◌, ℕ, zero, suc, ◌+◌, ◌-◌, ◌^◌, ◌<◌, ◌≤◌, Bool, false, List, [], ◌∷◌, ◌++◌, length, map, filter, slice_index_or, Option, refl, sym, ap, ◌∙◌, inl, inr, arith, length-append, flat_map, range_with_len, length-map, length-replicate, length-map-range_with_len, sum_by-cons, In, digit, In-append, In-map, from_map, AreOnce, LatchValue, CoverValue, HasOneCycle, address, Denotes, IsWellFormedBody, FlatLatch, FlatValue, Param, Lit, Lut, HaveBases, bits_of, TemplateValue, of_range, in_range, joined_apart, Cover, PlainNetlist, netlist_text, library_of, Naming, naming_of, bit_name, table_name, literal_name, digit_cell, digit_cells, leaf_names, bit_names, chosen_cells, fixed_table, tunable_table, written_latches, with_tables, specialised_netlist, template_netlist, HasPorts, AreTablesOf, Means, driven_by, free_control, all_bit_names, input_bits, rules, library_machine, lut_machine, reading, IsTableCycle, regular_names}
use Rattle.blif_write.proofs.DenoteLemmas.{denotes_plain}
use Rattle.blif_write.proofs.TableCycleLemmas.{bits_in_order, inputs_again, in_all, table_cycle, fixed_valued, tunable_valued}
use Rattle.netlist.proofs.LawLemmas.{sound_law}
use Rattle.netlist.specs.FlatCycle.{flat_inits}
use Rattle.machine.proofs.RefineLemmas.{refines_by}
use Rattle.lut_sim.proofs.FitLemmas.{cycle_only}
use Rattle.blif_write.proofs.PlainCycleLemmas.{PlainFits, IsPlainCycle, plain_cycle, plain_inits, plain_has_cycle, plain_has_run}
use Rattle.blif_write.proofs.PlainFlatLemmas.{plain_flat}
use Rattle.blif_write.proofs.PlainSoundLemmas.{IsOrderly, plain_sound}
use Rattle.blif_write.proofs.OwnNameLemmas.{own_number}
use Rattle.blif_write.proofs.PartLemmas.{AreCovers}
use Rattle.blif_write.proofs.OrderlyLemmas.{orderly}

-- rows have a cell for each input
digits_long : (leaves v : ℕ) → length (digit_cells leaves v) ≡ leaves
digits_long leaves v = length-map-range_with_len (λ (place : ℕ). digit_cell (digit v place)) 0 leaves

chosen_long : (bits v : ℕ) → v < bits → length (chosen_cells bits v) ≡ bits
chosen_long bits v small = grind (arith, length-replicate, length-append)

fixed_cells : (g : Naming) (config : List Bool) (u : Lut) → IsWellFormedBody (Cover (fixed_table g config u))
fixed_cells g config u row i = grind (arith, filter, slice_index_or, from_map, digits_long, length-map)

tunable_cells : (g : Naming) (u : Lut) → IsWellFormedBody (Cover (tunable_table g u))
tunable_cells g u row i = grind (arith, from_map, of_range, length-append, digits_long, chosen_long, g, length-map, length-map-range_with_len)

-- the names of the bits
abbrev all_bits : Naming → List Lut → List (List ℕ)
all_bits g luts = flat_map (λ (l : List (List ℕ)). l) (map (bit_names g) luts)

bits_there : (g : Naming) (b : ℕ) (luts : List Lut) (name : List ℕ) → HaveBases b luts → In (all_bits g luts) name → (a : ℕ) × (b ≤ a) × (a < b + bits_of luts) × (name ≡ bit_name g a)
bits_there g b [] name h i = elim i [ ]
bits_there g b (t ∷ ts) name h i =
    let sum : bits_of (t ∷ ts) ≡ 2 ^ length t.leaves + bits_of ts = sum_by-cons (λ (k : Lut). 2 ^ length k.leaves) t ts in
    elim (In-append (bit_names g t) (all_bits g ts) name i) [
      | inl j ↦ let r : (a : ℕ) × In (range_with_len t.base (2 ^ length t.leaves)) a × (name ≡ bit_name g a) = from_map (bit_name g) (range_with_len t.base (2 ^ length t.leaves)) name j in
          let s : (t.base ≤ r.0) × (r.0 < t.base + 2 ^ length t.leaves) = of_range t.base (2 ^ length t.leaves) r.0 r.1 in
          let base : t.base ≡ b = h.0 in
          (r.0, omega (arith, s.0, base), omega (arith, s.1, base, sum), r.2)
      | inr j ↦ let r : (a : ℕ) × (b + 2 ^ length t.leaves ≤ a) × (a < b + 2 ^ length t.leaves + bits_of ts) × (name ≡ bit_name g a) = bits_there g (b + 2 ^ length t.leaves) ts name h.1 j in
          (r.0, omega (arith, r.1), omega (arith, r.2, sum), r.3)
    ]

range_once : (g : Naming) (a n : ℕ) → a + n ≤ 2 ^ 64 → AreOnce (map (bit_name g) (range_with_len a n))
range_once g a zero small = tt
range_once g a (suc n) small = grind (arith, g, from_map, of_range, own_number, range_once g (a + 1) n (omega (arith, small)))

bits_once : (g : Naming) (b : ℕ) (luts : List Lut) → HaveBases b luts → b + bits_of luts ≤ 2 ^ 64 → AreOnce (all_bits g luts)
bits_once g b [] h small = tt
bits_once g b (t ∷ ts) h small =
    let sum : bits_of (t ∷ ts) ≡ 2 ^ length t.leaves + bits_of ts = sum_by-cons (λ (k : Lut). 2 ^ length k.leaves) t ts in
    grind (arith, joined_apart, g, all_bits, range_once, from_map, of_range, bits_there, own_number, bits_once g (b + 2 ^ length t.leaves) ts h.1 (omega (arith, small, sum)))

fixed_covers : (g : Naming) (luts : List Lut) (config : List Bool) → AreCovers g luts [] (fixed_table g config)
fixed_covers g luts config = search (rules, fixed_cells, g, bits_once)

tunable_covers : (g : Naming) (luts : List Lut) (bits : ℕ) → HaveBases 0 luts → bits ≡ bits_of luts → bits < 2 ^ 32 → AreCovers g luts (map (bit_names g) luts) (tunable_table g)
tunable_covers g luts bits bases sum few = record {
  output = λ u. refl;
  on = λ u. refl;
  inputs = λ u i name j. elim (In-append (leaf_names g u) (bit_names g u) name j) [ inl k ↦ inl k | inr k ↦ inr (in_all (bit_names g) luts u name i k) ];
  cells = tunable_cells g;
  bits_own = λ name i. let r : (a : ℕ) × (0 ≤ a) × (a < 0 + bits_of luts) × (name ≡ bit_name g a) = bits_there g 0 luts name bases i in (r.0, omega (arith, r.2, sum, few), r.3);
  bits_once = bits_once g 0 luts bases (omega (arith, sum, few));
}

-- the latches' inits
inits_are : (g : Naming) (control : Option (List ℕ)) (ordinal : ℕ) (ls : List FlatLatch) (nexts : List Lit) → length nexts ≡ length ls → map (λ (l : LatchValue). l.init) (written_latches g control ordinal ls nexts) ≡ map (λ (l : FlatLatch). l.init) ls
inits_are g control ordinal [] nexts same = refl
inits_are g control ordinal (l ∷ ls) [] same = absurd (omega (arith, same))
inits_are g control ordinal (l ∷ ls) (next ∷ nexts) same = ap (λ (t : List Bool). l.init ∷ t) (inits_are g control (suc ordinal) ls nexts (omega (arith, same)))

latch_count : (g : Naming) (control : Option (List ℕ)) (ordinal : ℕ) (ls : List FlatLatch) (nexts : List Lit) → length nexts ≡ length ls → length (written_latches g control ordinal ls nexts) ≡ length ls
latch_count g control ordinal ls nexts same =
    sym (length-map (written_latches g control ordinal ls nexts) (λ (l : LatchValue). l.init)) ∙ ap length (inits_are g control ordinal ls nexts same) ∙ length-map ls (λ (l : FlatLatch). l.init)

module _ (flat : FlatValue) (params : List Param) (t : TemplateValue) (ports : HasPorts flat) (are : AreTablesOf flat params t) where
  abbrev g : Naming
  g = naming_of flat params

  template_covers : AreCovers g t.luts (map (bit_names g) t.luts) (tunable_table g)
  template_covers = tunable_covers g t.luts t.bits are.playable.bases are.playable.sum are.few_bits

  pub specialised_denotes : (config : List Bool) → Denotes (netlist_text (specialised_netlist flat params t config)) (library_of (specialised_netlist flat params t config))
  specialised_denotes config = denotes_plain (specialised_netlist flat params t config) (orderly flat params t [] (fixed_table g config) ports are (fixed_covers g t.luts config)).plain

  pub template_denotes : Denotes (netlist_text (template_netlist flat params t)) (library_of (template_netlist flat params t))
  template_denotes = denotes_plain (template_netlist flat params t) (orderly flat params t (map (bit_names g) t.luts) (tunable_table g) ports are template_covers).plain

  means : (bits : List (List (List ℕ))) (table : Lut → CoverValue) (names : List (List ℕ)) (config : (List ℕ → Bool) → List Bool) → AreCovers g t.luts bits table → flat_map (λ (l : List (List ℕ)). l) bits ≡ names
      → ((x : List ℕ → Bool) (s : List Bool) (value : List ℕ → Bool) → PlainFits (with_tables flat params t bits (map table t.luts)) x s value
      → (u : Lut) → In t.luts u → value (table_name g u.lit.0) ≡ slice_index_or (config x) (address (λ lit. value (literal_name g lit)) u) false)
      → Means flat params t (with_tables flat params t bits (map table t.luts)) names config
  means bits table names config covers named valued =
      let n : PlainNetlist = with_tables flat params t bits (map table t.luts) in
      let order : IsOrderly n = orderly flat params t bits table ports are covers in
      let law : HasOneCycle (library_of n) = sound_law (library_of n) (plain_sound n order) in
      record {
        sound = plain_sound n order;
        is_flat = plain_flat n order;
        inputs = λ again h. inputs_again flat params t bits (map table t.luts) ports are.roots.next covers.bits_own again h ∙ ap (λ (k : List (List ℕ)). g.regular ++ (free_control flat.control ++ k)) named;
        refines = refines_by (library_machine (library_of n)) (reading (driven_by flat params config) (lut_machine t g.shape (flat_inits flat)))
            (λ x s outputs next c.
            let p : IsPlainCycle n x s outputs next = plain_cycle n x s outputs next c in
            let is : IsTableCycle t g.shape (config x) (map x g.regular) s outputs next = table_cycle flat params t bits (map table t.luts) ports are x s p.value p.fits (config x) outputs next p.outputs_are p.next_are (valued x s p.value p.fits) in
            record {
              inputs = length-map (regular_names flat params) x;
              states = p.states ∙ latch_count g flat.control 0 flat.latches t.next are.roots.next;
              is = is;
              only = cycle_only t g.shape (config x) (map x g.regular) s outputs next is.value are.playable is.fits is.outputs_are is.next_are;
            })
            (λ s a. plain_inits n s a ∙ inits_are g flat.control 0 flat.latches t.next are.roots.next);
        has_cycle = λ x s len. plain_has_cycle n law x s (len ∙ sym (latch_count g flat.control 0 flat.latches t.next are.roots.next));
        has_run = plain_has_run n law;
      }

  pub specialised_means : (config : List Bool) → Means flat params t (specialised_netlist flat params t config) [] (λ x. config)
  specialised_means config = means [] (fixed_table g config) [] (λ x. config) (fixed_covers g t.luts config) refl (λ x s value fits u i.
      fixed_valued flat params t [] (map (fixed_table g config) t.luts) ports are x s value fits config u (In-map (fixed_table g config) t.luts u i))

  pub template_means : Means flat params t (template_netlist flat params t) (all_bit_names g t.bits) (input_bits g t.bits)
  template_means = means (map (bit_names g) t.luts) (tunable_table g) (all_bit_names g t.bits) (input_bits g t.bits) template_covers
      (bits_in_order g 0 t.luts are.playable.bases ∙ ap (λ (count : ℕ). map (bit_name g) (range_with_len 0 count)) (sym are.playable.sum)) (λ x s value fits u i.
      tunable_valued flat params t (map (bit_names g) t.luts) (map (tunable_table g) t.luts) ports are x s value fits u i (In-map (tunable_table g) t.luts u i)
      (λ b low high. in_all (bit_names g) t.luts u (bit_name g b) i (In-map (bit_name g) (range_with_len u.base (2 ^ length u.leaves)) b (in_range u.base (2 ^ length u.leaves) b low high))))
