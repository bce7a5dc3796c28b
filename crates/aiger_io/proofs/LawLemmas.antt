-- The law of a circuit and its library: fitting values exist and agree, and cycles and runs are the same.
use Rattle.aiger_io.proofs.Common.{◌≡◌, ℕ, zero, suc, ◌+◌, ◌-◌, ◌/◌, ◌^◌, ◌<◌, ◌≤◌, min, max, Bool, false, get_or, List, [], ◌∷◌, ◌++◌, length, map, Option, Some, None, inl, inr, refl, sym, ap, ◌∙◌, subst, arith, append-nil, slice_get, option_map, option_and_then, length-map, same_Some, slice_get-map, slice_get-get_or, slice_get_within, In, place_in, at_within, same_list, CoverValue, Fits, ModelValue, LibraryValue, Path, Net, Drives, cover_output, latch_output, latch_net, cover_net, Place, is_latch, FlatOrder, FlatUnder, flat, latch_at, latch_in, AreLatches, IsCycle, init_state, inits_of, state_of, next_state, next_states, One, Command, AreOnce, Circuit, mark_of, variable_name, next_name, cell_of, cover_command, zero_command, latch_command, port_name, commands_from, model_of, library_of, Item, Input, Latch, Output, And, circuit_of, IsLibraryIn, left_apart, rules, library_machine, MealyMachine, reading, refines_by}
use Rattle.netlist.specs.Law.{HasOneCycle}
use Rattle.netlist.specs.Sound.{IsSound}
use Rattle.netlist.specs.SubcktValue.{SubcktValue}
use Rattle.netlist.specs.declared.command.Body.TheVariants as body
use Rattle.netlist.proofs.LawLemmas.{sound_law}
use Rattle.aiger_io.specs.Run.{literal_value, FitsLines, IsDefined, zero_variable, input, latch, gate, HasOneFit, output_literal, next_literal, output_literals, next_literals, init_bits, IsCircuitCycle, circuit_machine, HasSameRuns}
use Rattle.aiger_io.proofs.FitLemmas.{built, place_among, place_once, variable_built, next_built, output_built, nexts_picked, outputs_picked, fits_library, latches_of, no_subckts, are_latches, cover_in_place, command_in, item_in, circuit_kinds, literal_is, fits_lines}
use Rattle.aiger_io.proofs.CleanLemmas.{IsKept, text_kept, text_ports_once}
use Rattle.aiger_io.proofs.PlaceLemmas.{latch_indices, top_place, own_latches, picked_length, picked_at, picked_from, of_input, defined_low}

-- bits by the names of their places
abbrev by_name : List (List ℕ) → List Bool → List ℕ → Bool
by_name names bits name = get_or bits (place_among names name) false

by_name_at : (names : List (List ℕ)) (bits : List Bool) (k : ℕ) (b : Bool) → AreOnce names → k < length names → slice_get bits k ≡ Some b → slice_get (map (by_name names bits) names) k ≡ Some b
by_name_at names bits k b once l e =
    let n = at_within names k l in
    grind (arith, slice_get-map, by_name, place_once, slice_get-get_or, slice_get_within)

by_name_all : (names : List (List ℕ)) (bits : List Bool) → AreOnce names → length bits ≡ length names → map (by_name names bits) names ≡ bits
by_name_all names bits once l = same_list (map (by_name names bits) names) bits (length-map names (by_name names bits) ∙ sym l)
    (λ i x y a b. let w : i < length bits = slice_get_within bits i y b in same_Some x y (sym a ∙ by_name_at names bits i y once (omega arith) b))

-- two lists that give the same values place by place
values_same : {A B : Type 0} (g : A → Bool) (h : B → Bool) (xs : List A) (ys : List B) → length xs ≡ length ys → ((i : ℕ) (x : A) (y : B) → slice_get xs i ≡ Some x → slice_get ys i ≡ Some y → g x ≡ h y) → map g xs ≡ map h ys
values_same g h [] [] l each = refl
values_same {A = A} g h [] (y ∷ ys) l each = absurd (let e : length {A = A} [] ≡ length (y ∷ ys) = l in omega arith)
values_same {B = B} g h (x ∷ xs) [] l each = absurd (let e : length (x ∷ xs) ≡ length {A = B} [] = l in omega arith)
values_same g h (x ∷ xs) (y ∷ ys) l each =
    ap (λ b. b ∷ map g xs) (each zero x y refl refl) ∙ ap (λ bs. h y ∷ bs) (values_same g h xs ys (omega arith) (λ i a b p q. each (suc i) a b p q))

module _ (c : Circuit) (kept : IsKept c) (once : AreOnce (c.inputs ++ c.outputs)) where
  -- values of the inputs by their names
  given_by : (x s : List Bool) (f : ℕ → Bool) → FitsLines c x s f → FitsLines c (map (by_name c.inputs x) c.inputs) s f
  given_by x s f fits = record {
    zero_is = fits.zero_is;
    inputs = λ k own e.
        by_name_at c.inputs x k (f (own / 2)) (left_apart c.inputs c.outputs once) (omega (arith, of_input c.header k (kept.items k (Input own) e).kind)) (fits.inputs k own e);
    latches = fits.latches;
    ands = fits.ands;
  }

  -- what the lines define is driven
  cover_drives : (d : Command) (cover : CoverValue) → In (model_of c).commands d → d.body ≡ body.Cover cover → (net : Net) × Drives (library_of c) [] cover.output net
  cover_drives d cover i is = let p = cover_in_place c d cover i is in (cover_net [] p.0, cover_output p.0 cover p.1 refl refl)

  own_driven : (own q : ℕ) (item : Item) (d : Command) (cover : CoverValue) (v : ℕ) → In (model_of c).commands d → d.body ≡ body.Cover cover → cover.output ≡ variable_name (mark_of (c.inputs ++ c.outputs)) v
      → (net : Net) × Drives (library_of c) [] (variable_name (mark_of (c.inputs ++ c.outputs)) v) net
  own_driven own q item d cover v i is out = subst (λ n. (net : Net) × Drives (library_of c) [] n net) out (cover_drives d cover i is)

  defined_driven : (v : ℕ) → IsDefined c v → (net : Net) × Drives (library_of c) [] (variable_name (mark_of (c.inputs ++ c.outputs)) v) net
  defined_driven v (zero_variable e) =
      own_driven 0 0 (Input 0) (zero_command 1 (variable_name (mark_of (c.inputs ++ c.outputs)) 0)) _ v (inl refl) refl (ap (variable_name (mark_of (c.inputs ++ c.outputs))) (sym e))
  defined_driven v (input own i e) =
      let p = place_in c.items (Input own) i in
      own_driven own p.0 (Input own) (cover_command (0 + p.0 + 2) (port_name c.inputs (0 + p.0) ∷ []) (variable_name (mark_of (c.inputs ++ c.outputs)) (own / 2)) (One ∷ [])) _ v
      (item_in c p.0 (Input own) _ p.1 (inl refl)) refl (ap (variable_name (mark_of (c.inputs ++ c.outputs))) (sym e))
  defined_driven v (latch own next init i e) =
      let p = place_in c.items (Latch own next init) i in
      let q = place_in (model_of c).commands (latch_command (0 + p.0 + 2) (next_name (mark_of (c.inputs ++ c.outputs)) (0 + p.0 - c.header.inputs)) (variable_name (mark_of (c.inputs ++ c.outputs)) (own / 2)) init) (item_in c p.0 (Latch own next init) _ p.1 (inr (inl refl))) in (
        latch_net [] q.0,
        latch_output q.0 (record { input = next_name (mark_of (c.inputs ++ c.outputs)) (0 + p.0 - c.header.inputs); output = variable_name (mark_of (c.inputs ++ c.outputs)) (own / 2); control = None; init = init })
            (record { model = model_of c; at = refl; is = command_in c q.0 (latch_command (0 + p.0 + 2) (next_name (mark_of (c.inputs ++ c.outputs)) (0 + p.0 - c.header.inputs)) (variable_name (mark_of (c.inputs ++ c.outputs)) (own / 2)) init) q.1 })
            (ap (variable_name (mark_of (c.inputs ++ c.outputs))) e) refl,
      )
  defined_driven v (gate own left right i e) =
      let p = place_in c.items (And own left right) i in
      own_driven own p.0 (And own left right) (cover_command (0 + p.0 + 2) (variable_name (mark_of (c.inputs ++ c.outputs)) (right / 2) ∷ variable_name (mark_of (c.inputs ++ c.outputs)) (left / 2) ∷ []) (variable_name (mark_of (c.inputs ++ c.outputs)) (own / 2)) (cell_of right ∷ cell_of left ∷ [])) _ v
      (item_in c p.0 (And own left right) _ p.1 (inl refl)) refl (ap (variable_name (mark_of (c.inputs ++ c.outputs))) (sym e))

  -- and its number is small
  defined_small : (v : ℕ) → IsDefined c v → v < 2 ^ 64
  defined_small v d = omega (arith, kept.most, defined_low c kept.items v d)

  -- fitting values exist, and agree on what the lines define
  pub one_fit : HasOneCycle (library_of c) → HasOneFit c
  one_fit law = record {
    exists = λ x s l m.
        let fit = law.exists (by_name c.inputs x) (state_of (latches_of c) s) in
        let names : map (by_name c.inputs x) c.inputs ≡ x = by_name_all c.inputs x (left_apart c.inputs c.outputs once) (l ∙ sym kept.inputs) in (
          λ v. fit.value [] (variable_name (mark_of (c.inputs ++ c.outputs)) v),
          subst (λ i. FitsLines c i s (λ v. fit.value [] (variable_name (mark_of (c.inputs ++ c.outputs)) v))) names (fits_lines c kept (by_name c.inputs x) s m fit.value fit.fits),
        );
    agree = λ x s f g a b v d.
        let drives = defined_driven v d in
        let small : v < 2 ^ 64 = defined_small v d in
        let left = fits_library c kept once (by_name c.inputs x) s f (given_by x s f a) in
        let right = fits_library c kept once (by_name c.inputs x) s g (given_by x s g b) in
        sym (variable_built c (by_name c.inputs x) f [] v small)
        ∙ law.agree (by_name c.inputs x) (state_of (latches_of c) s) (built c (by_name c.inputs x) f) (built c (by_name c.inputs x) g) left right [] (variable_name (mark_of (c.inputs ++ c.outputs)) v) drives.0 drives.1
        ∙ variable_built c (by_name c.inputs x) g [] v small;
  }

-- the latches of the library, one after another
module _ (c : Circuit) where
  abbrev AreThere : ℕ → ℕ → List Item → Type 0
  AreThere j p items = (n : ℕ) (d : Command) → slice_get (commands_from (mark_of (c.inputs ++ c.outputs)) c.header c.inputs c.outputs p items) n ≡ Some d → slice_get (model_of c).commands (j + n) ≡ Some d

  first_there : (j p own next : ℕ) (init : Bool) (items : List Item) → AreThere j p (Latch own next init ∷ items)
      → latch_at (library_of c) (top_place (suc j)) ≡ Some (record { input = next_name (mark_of (c.inputs ++ c.outputs)) (p - c.header.inputs); output = variable_name (mark_of (c.inputs ++ c.outputs)) (own / 2); control = None; init = init })
  first_there j p own next init items there =
      let z : j + 1 ≡ suc j = omega arith in
      ap (λ (o : Option Command). option_and_then latch_in (option_map (λ (k : Command). k.body) o)) (subst (λ m. slice_get (model_of c).commands m ≡ Some (latch_command (p + 2) (next_name (mark_of (c.inputs ++ c.outputs)) (p - c.header.inputs)) (variable_name (mark_of (c.inputs ++ c.outputs)) (own / 2)) init)) z (there 1 _ refl))

  one_there : (j p : ℕ) (items : List Item) (d : Command) (commands : List Command) → ((n : ℕ) (e : Command) → slice_get (d ∷ commands) n ≡ Some e → slice_get (model_of c).commands (j + n) ≡ Some e)
      → (n : ℕ) (e : Command) → slice_get commands n ≡ Some e → slice_get (model_of c).commands (suc j + n) ≡ Some e
  one_there j p items d commands there n e at = let z : j + suc n ≡ suc j + n = omega arith in subst (λ m. slice_get (model_of c).commands m ≡ Some e) z (there (suc n) e at)

  two_there : (j p own next : ℕ) (init : Bool) (items : List Item) → AreThere j p (Latch own next init ∷ items) → AreThere (suc (suc j)) (p + 1) items
  two_there j p own next init items there n e at = let z : j + suc (suc n) ≡ suc (suc j) + n = omega arith in subst (λ m. slice_get (model_of c).commands m ≡ Some e) z (there (suc (suc n)) e at)

  abbrev GivesNext : (Path → List ℕ → Bool) → (ℕ → Bool) → ℕ → List Item → Type 0
  GivesNext value f p items = (q own next : ℕ) (init : Bool) → slice_get items q ≡ Some (Latch own next init) → value [] (next_name (mark_of (c.inputs ++ c.outputs)) (p + q - c.header.inputs)) ≡ literal_value f next

  later_gives : (value : Path → List ℕ → Bool) (f : ℕ → Bool) (p : ℕ) (first : Item) (items : List Item) → GivesNext value f p (first ∷ items) → GivesNext value f (p + 1) items
  later_gives value f p first items gives q own next init e = let z : p + suc q - c.header.inputs ≡ p + 1 + q - c.header.inputs = omega arith in subst (λ m. value [] (next_name (mark_of (c.inputs ++ c.outputs)) m) ≡ literal_value f next) z (gives (suc q) own next init e)

  nexts_same : (value : Path → List ℕ → Bool) (f : ℕ → Bool) (j p : ℕ) (items : List Item) → AreThere j p items → GivesNext value f p items
      → map (λ (pl : Place). next_state (value pl.path) (latch_at (library_of c) pl)) (map top_place (latch_indices j items)) ≡ map (literal_value f) (next_literals items)
  nexts_same value f j p [] there gives = refl
  nexts_same value f j p (Latch own next init ∷ items) there gives =
      let first : next_state (value []) (latch_at (library_of c) (top_place (suc j))) ≡ literal_value f next =
      ap (next_state (value [])) (first_there j p own next init items there) ∙ subst (λ m. value [] (next_name (mark_of (c.inputs ++ c.outputs)) m) ≡ literal_value f next) (omega arith) (gives zero own next init refl) in
      grind (arith, top_place, latch_indices, two_there, later_gives, nexts_same value f (suc (suc j)) (p + 1) items (two_there j p own next init items there) (later_gives value f p (Latch own next init) items gives))
  nexts_same value f j p (item ∷ items) there gives = nexts_same value f (suc j) (p + 1) items (one_there j p items _ _ there) (later_gives value f p item items gives)

  inits_same : (j p : ℕ) (items : List Item) → AreThere j p items → map (λ (pl : Place). init_state (latch_at (library_of c) pl)) (map top_place (latch_indices j items)) ≡ init_bits items
  inits_same j p [] there = refl
  inits_same j p (Latch own next init ∷ items) there =
      ap (λ b. b ∷ map (λ (pl : Place). init_state (latch_at (library_of c) pl)) (map top_place (latch_indices (suc (suc j)) items))) (ap init_state (first_there j p own next init items there))
      ∙ ap (λ bs. init ∷ bs) (inits_same (suc (suc j)) (p + 1) items (two_there j p own next init items there))
  inits_same j p (item ∷ items) there = inits_same (suc j) (p + 1) items (one_there j p items _ _ there)

  all_there : AreThere 1 0 c.items
  all_there n d e = let z : suc n ≡ 1 + n = omega arith in subst (λ m. slice_get (model_of c).commands m ≡ Some d) z e

  pub inits_are : inits_of (library_of c) (latches_of c) ≡ init_bits c.items
  inits_are = inits_same 1 0 c.items all_there

indices_length : (j : ℕ) (items : List Item) → length (latch_indices j items) ≡ length (next_literals items)
indices_length j [] = refl
indices_length j (Latch own next init ∷ items) = ap (λ n. suc n) (indices_length (suc (suc j)) items)
indices_length j (item ∷ items) = indices_length (suc j) items

latches_length : (c : Circuit) → IsKept c → length (latches_of c) ≡ c.header.latches
latches_length c kept =
    let d = picked_length c.header next_literal c.header.inputs (c.header.inputs + c.header.latches) (nexts_picked c.header) 0 c.items (circuit_kinds c kept) in
    let n : length c.items ≡ c.header.inputs + c.header.latches + c.header.outputs + c.header.ands = kept.all in omega (arith, indices_length 1 c.items, length-map (latch_indices 1 c.items) top_place)

outputs_length : (c : Circuit) → IsKept c → length (output_literals c.items) ≡ length c.outputs
outputs_length c kept =
    let d : length (output_literals c.items) ≡ min (0 + length c.items) (c.header.inputs + c.header.latches + c.header.outputs) - max 0 (c.header.inputs + c.header.latches) =
    picked_length c.header output_literal (c.header.inputs + c.header.latches) (c.header.inputs + c.header.latches + c.header.outputs) (outputs_picked c.header) 0 c.items (circuit_kinds c kept) in
    let o : length c.outputs ≡ c.header.outputs = kept.outputs in omega arith

-- a library's latches are those, in flat order
no_inner : (c : Circuit) (path : Path) (k : ℕ) (subckts : List SubcktValue) (places : List Place) → subckts ≡ [] → FlatUnder (library_of c) is_latch path k subckts places → places ≡ []
no_inner c path k subckts places e e2 = grind arith

latches_are : (c : Circuit) (latches : List Place) → FlatOrder (library_of c) is_latch [] (model_of c) latches → latches ≡ latches_of c
latches_are c latches (flat inner under is) = grind (arith, no_inner, no_subckts, append-nil, own_latches)

-- what is known of a library's latches
record AreItsLatches (c : Circuit) (main : ModelValue) (latches : List Place) : Type 0 where
  main_is : main ≡ model_of c
  latches_is : latches ≡ latches_of c

its_latches : (c : Circuit) (main : ModelValue) (latches : List Place) → AreLatches (library_of c) main latches → AreItsLatches c main latches
its_latches c main latches are = grind (arith, same_Some, latches_are)

module _ (c : Circuit) (kept : IsKept c) (once : AreOnce (c.inputs ++ c.outputs)) where
  -- from the circuit's cycle to the library's
  built_outputs : (x : List ℕ → Bool) (f : ℕ → Bool) → map (literal_value f) (output_literals c.items) ≡ map (built c x f []) c.outputs
  built_outputs x f = values_same (literal_value f) (built c x f []) (output_literals c.items) c.outputs (outputs_length c kept)
      (λ i l name a b. sym (output_built c x f [] i l name once b a))

  built_nexts : (x : List ℕ → Bool) (f : ℕ → Bool) → next_states (library_of c) (built c x f) (latches_of c) ≡ map (literal_value f) (next_literals c.items)
  built_nexts x f = nexts_same c (built c x f) f 1 0 c.items (all_there c) (λ q own next init e.
      let w : q < length c.items = slice_get_within c.items q (Latch own next init) e in
      let picked = picked_at c.header next_literal c.header.inputs (c.header.inputs + c.header.latches) (nexts_picked c.header) 0 c.items (circuit_kinds c kept) q (Latch own next init) next e refl in
      next_built c x f [] (0 + q - c.header.inputs) next (omega arith) (subst (λ m. slice_get (next_literals c.items) m ≡ Some next) (omega arith) picked))

  pub cycle_of_lines : (x : List ℕ → Bool) (s outputs next : List Bool) → IsCircuitCycle c (map x c.inputs) s outputs next → IsCycle (library_of c) x s outputs next
  cycle_of_lines x s outputs next cycle = record {
    main = model_of c;
    latches = latches_of c;
    are_latches = are_latches c;
    states = cycle.states ∙ sym (latches_length c kept);
    value = built c x cycle.value;
    fits = fits_library c kept once x s cycle.value cycle.fits;
    outputs_are = cycle.outputs_are ∙ built_outputs x cycle.value;
    next_are = cycle.next_are ∙ sym (built_nexts x cycle.value);
  }

  -- and back
  module _ (x : List ℕ → Bool) (s : List Bool) (count : length s ≡ c.header.latches) (value : Path → List ℕ → Bool) (fits : Fits (library_of c) x (state_of (latches_of c) s) value) where
    abbrev own_values : ℕ → Bool
    own_values v = value [] (variable_name (mark_of (c.inputs ++ c.outputs)) v)

    output_here : (j : ℕ) (name : List ℕ) (l : ℕ) → slice_get c.outputs j ≡ Some name → (q : ℕ) (item : Item) → slice_get c.items q ≡ Some item → output_literal item ≡ l ∷ [] → j ≡ 0 + q - max 0 (c.header.inputs + c.header.latches) → value [] name ≡ literal_value own_values l
    output_here j name l a q (Output o) at is e =
        let same : o ≡ l = cc in
        let z : 0 + q - (c.header.inputs + c.header.latches) ≡ j = omega arith in
        let w : j < length c.outputs = slice_get_within c.outputs j name a in
        subst (λ k. value [] k ≡ literal_value own_values l) (ap (port_name c.outputs) z ∙ same_Some (port_name c.outputs j) name (sym (slice_get-get_or c.outputs j [] w) ∙ a))
        (literal_is c kept x s count value fits (0 + q + 2) o (port_name c.outputs (0 + q - (c.header.inputs + c.header.latches))) (item_in c q (Output o) _ at (inl refl)) ∙ ap (literal_value own_values) same)
    output_here j name l a q item at is e = absurd (cc)

    line_outputs : map (value []) c.outputs ≡ map (literal_value own_values) (output_literals c.items)
    line_outputs = values_same (value []) (literal_value own_values) c.outputs (output_literals c.items) (sym (outputs_length c kept)) (λ j name l a b.
        let f = picked_from c.header output_literal (c.header.inputs + c.header.latches) (c.header.inputs + c.header.latches + c.header.outputs) (outputs_picked c.header) 0 c.items (circuit_kinds c kept) j l b in
        output_here j name l a f.place f.item f.at f.is f.ordinal)

    line_nexts : next_states (library_of c) value (latches_of c) ≡ map (literal_value own_values) (next_literals c.items)
    line_nexts = nexts_same c value own_values 1 0 c.items (all_there c) (λ q own next init e.
        literal_is c kept x s count value fits (0 + q + 2) next (next_name (mark_of (c.inputs ++ c.outputs)) (0 + q - c.header.inputs)) (item_in c q (Latch own next init) _ e (inl refl)))

    lines_cycle : (outputs next : List Bool) → outputs ≡ map (value []) c.outputs → next ≡ next_states (library_of c) value (latches_of c) → IsCircuitCycle c (map x c.inputs) s outputs next
    lines_cycle outputs next a b = search (rules, length-map, own_values, fits_lines, line_outputs, line_nexts)

  pub lines_of_cycle : (x : List ℕ → Bool) (s outputs next : List Bool) → IsCycle (library_of c) x s outputs next → IsCircuitCycle c (map x c.inputs) s outputs next
  lines_of_cycle x s outputs next cycle =
      let its = its_latches c cycle.main cycle.latches cycle.are_latches in
      let count : length s ≡ c.header.latches = cycle.states ∙ ap (λ (l : List Place). length l) its.latches_is ∙ latches_length c kept in
      lines_cycle x s count cycle.value (subst (λ l. Fits (library_of c) x (state_of l s) cycle.value) its.latches_is cycle.fits) outputs next
      (cycle.outputs_are ∙ ap (λ (m : ModelValue). map (cycle.value []) m.outputs) its.main_is) (cycle.next_are ∙ ap (next_states (library_of c) cycle.value) its.latches_is)

  pub same_runs : HasSameRuns c (library_of c)
  same_runs =
      let own : MealyMachine (List ℕ → Bool) (List Bool) (List Bool) = reading (λ (x : List ℕ → Bool). map x c.inputs) (circuit_machine c) in
      record {
        forth = refines_by own (library_machine (library_of c)) cycle_of_lines (λ s e. record { main = model_of c; latches = latches_of c; are_latches = are_latches c; are = e ∙ sym (inits_are c) });
        back = refines_by (library_machine (library_of c)) own lines_of_cycle (λ s a. a.are ∙ ap (inits_of (library_of c)) (its_latches c a.main a.latches a.are_latches).latches_is ∙ inits_are c);
      }

-- of a text's library
pub text_fit : (text : List ℕ) (library : LibraryValue) → length text ≤ 67108864 → (made : IsLibraryIn (circuit_of text) library) → IsSound library → HasOneFit made.circuit
text_fit text library l made sound =
    one_fit made.circuit (text_kept text made.circuit l made.is) (text_ports_once text made.circuit l made.is) (sound_law (library_of made.circuit) (subst IsSound made.made sound))

pub text_runs : (text : List ℕ) (library : LibraryValue) → length text ≤ 67108864 → (made : IsLibraryIn (circuit_of text) library) → HasSameRuns made.circuit library
text_runs text library l made =
    subst (HasSameRuns made.circuit) (sym made.made) (same_runs made.circuit (text_kept text made.circuit l made.is) (text_ports_once text made.circuit l made.is))
