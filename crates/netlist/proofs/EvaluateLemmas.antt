-- Evaluating a flat circuit in its order gives each cover the value of any map that fits, by the numbers of the nets.
use Rattle.netlist.proofs.Common.{◌≡◌, ℕ, Bool, false, List, [], ◌∷◌, map, Some, refl, sym, ap, ap₂, ◌∙◌, subst, inl, inr, unwrap_or, ◌<◌, eqb, length, replicate, Option, ◌⊎◌, arith, slice_set, slice_get, option_and_then, In, both_ways, cases_Bool, length-set, length-replicate, same_Some, slice_get_within, at_within, set_here, set_other, zero, suc, true, subst₂, option_map, cond-true, cond-false, length-map, none-some, slice_get-map, In-left, In-right, In-get, AreApart, reversed_in, nodes_done, In-map, same_list, mapped_at, not, or_left, not-true, In-filter, has_name, IsMainInput, IsClock, CoverValue, LibraryValue, FlatCoverValue, FlatValue, AreLatches, eqb-true, eq-eqb, rules, reading, refines_by}
use Rattle.netlist.specs.Flat.{Places, none, more}
use Rattle.netlist.specs.{cover_value, ModelValue, Path, body_at, CoverAt, input_net, latch_net, cover_net, Place, cover_in, FlatNet, Fits, an_input, a_latch, a_cover, IsNetOf, AreNetsOf, cover_numbers, IsFlat, reads_at, inputs_at, IsFlatCover, net_value, AreGiven, cover_behind, value_of, gate_value, evaluated, flat_values, Evaluates, same_place, latch_at, is_latch, FlatOrder, OutPort, FlatLatch, flat_roots, IsFlatLatch, init_state, inits_of, state_of, next_state, IsCycle, AreInits, library_machine, flat_outputs, flat_next, flat_inits, IsFlatCycle, flat_machine, input_values, HasCycles, IsSound, latch_nets}
use Rattle.std.proofs.lemmas.Simd.{map-map}
use Rattle.netlist.specs.declared.flat.FlatNet.TheVariants.{Cover}
use Rattle.netlist.proofs.RunLemmas.{cycle_there, run_there}
use Rattle.netlist.proofs.OrderLemmas.{order_once, places_apart}
use Rattle.tl_text.proofs.NameSetLemmas.{in_has}
use Rattle.netlist.proofs.PlaceLemmas.{latch_at-some, cover_at-is, same_place-is, same_place-refl}
use Rattle.netlist.proofs.LawLemmas.{IsDriverValue, driven_value, sound_law}
use Rattle.netlist.proofs.PostLemmas.{nodes_after, IsForward, reversed_forward}

-- the inputs of a flat circuit are main inputs, and no clock nets
record IsRegular (library : LibraryValue) (name : List ℕ) : Type 0 where
  input : IsMainInput library name
  off : IsClock library name → ⊥

regular : (library : LibraryValue) (flat : FlatValue) (f : IsFlat library flat) (j : ℕ) (name : List ℕ) → slice_get flat.inputs j ≡ Some name → IsRegular library name
regular library flat f j name e =
    let r = In-filter (λ y. not (f.test y)) (f.main).inputs name (subst (λ l. In l name) f.inputs (In-get flat.inputs j name e)) in
    record {
      input = record { model = f.main; at = f.is_main; is = or_left (has_name (f.main).inputs name) (has_name (f.main).clocks name) (in_has (f.main).inputs name r.0) };
      off = (f.tells).no name (not-true (f.test name) r.1);
    }

-- the value of the cover at a place is known
abbrev pub IsKnown : LibraryValue → Places → (Path → List ℕ → Bool) → List Bool → ℕ → Type 0
IsKnown library at value values j = (p : Place) (c : CoverValue) → slice_get at.covers j ≡ Some p → CoverAt library p.path p.command c → slice_get values j ≡ Some (value p.path c.output)

-- the cover of a net, and those of others, among them all
pub cover_first : (net : FlatNet) (nets : List FlatNet) (m : ℕ) → In (cover_numbers (net ∷ [])) m → In (cover_numbers (net ∷ nets)) m
cover_first (Cover j) nets m (inl e) = inl e
cover_first (Cover j) nets m (inr i) = absurd i
cover_first net nets m i = absurd i

pub cover_later : (net : FlatNet) (nets : List FlatNet) (m : ℕ) → In (cover_numbers nets) m → In (cover_numbers (net ∷ nets)) m
cover_later (Cover j) nets m i = inr i
cover_later net nets m i = i

cover_among : (net : FlatNet) (nets : List FlatNet) (m : ℕ) → In nets net → In (cover_numbers (net ∷ [])) m → In (cover_numbers nets) m
cover_among net [] m i j = absurd i
cover_among net (first ∷ nets) m (inl e) j = cover_first first nets m (subst (λ y. In (cover_numbers (y ∷ [])) m) e j)
cover_among net (first ∷ nets) m (inr i) j = cover_later first nets m (cover_among net nets m i j)

module _ (library : LibraryValue) (flat : FlatValue) (f : IsFlat library flat) (x : List ℕ → Bool) (s : Path → ℕ → Bool) (xs ss : List Bool) (value : Path → List ℕ → Bool)
    (given : AreGiven flat f.at x s xs ss) (fits : Fits library x s value) where
  pub number_value : (values : List Bool) (path : Path) (name : List ℕ) (number : FlatNet) → IsNetOf library f.at path name number
      → ((m : ℕ) → In (cover_numbers (number ∷ [])) m → IsKnown library f.at value values m) → net_value xs ss values number ≡ value path name
  number_value values path name number o known =
      let driven : IsDriverValue library s value o.net (value path name) = driven_value library x s value fits o.drives in
      elim o.numbered [
        | an_input own j e g q ↦ (
            let d : IsDriverValue library s value (input_net own) (value path name) = subst (λ y. IsDriverValue library s value y (value path name)) e driven in
            let h : slice_get flat.inputs j ≡ Some own = subst (λ l. slice_get l j ≡ Some own) f.places g in
            ap (net_value xs ss values) q ∙ ap (λ y. unwrap_or y false) (given.inputs j own h) ∙ sym (fits.inputs own (regular library flat f j own h).input (regular library flat f j own h).off) ∙ sym d)
        | a_latch p j e g q ↦ (
            let d : IsDriverValue library s value (latch_net p.path p.command) (value path name) = subst (λ y. IsDriverValue library s value y (value path name)) e driven in
            ap (net_value xs ss values) q ∙ ap (λ y. unwrap_or y false) (given.latches j p g) ∙ sym d)
        | a_cover p j e g q ↦ (
            let d : IsDriverValue library s value (cover_net p.path p.command) (value path name) = subst (λ y. IsDriverValue library s value y (value path name)) e driven in
            ap (net_value xs ss values) q ∙ ap (λ y. unwrap_or y false) ((known j (subst (λ y. In (cover_numbers (y ∷ [])) j) (sym q) (inl refl))) p d.cover g d.at) ∙ sym d.is)
      ]

  pub numbers_value : (values : List Bool) (path : Path) {names : List (List ℕ)} {numbers : List FlatNet} → AreNetsOf library f.at path names numbers
      → ((m : ℕ) → In (cover_numbers numbers) m → IsKnown library f.at value values m) → map (net_value xs ss values) numbers ≡ map (value path) names
  numbers_value values path none known = refl
  numbers_value values path (more name names number numbers o os) known = grind (arith, ap₂, number_value, values, cover_first, cover_later, numbers_value values path os (λ m i. known m (cover_later number numbers m i)))

-- the cover behind a flat one is the one of its place
pub behind_is : (library : LibraryValue) (at : Places) (p : Place) (c : FlatCoverValue) (i : IsFlatCover library at p c) → cover_behind library c ≡ Some i.cover
behind_is library at p c i = grind arith

-- of lists as long as each other whose elements give the same, place by place
same_maps : {A B C : Type 0} (f : A → C) (g : B → C) (xs : List A) (ys : List B) → length ys ≡ length xs
    → ((k : ℕ) (x : A) (y : B) → slice_get xs k ≡ Some x → slice_get ys k ≡ Some y → f x ≡ g y) → map f xs ≡ map g ys
same_maps f g xs ys e h = same_list (map f xs) (map g ys) (length-map xs f ∙ sym e ∙ sym (length-map ys g)) (λ k a b p q.
    let x = mapped_at f xs k a p in
    let y = mapped_at g ys k b q in
    x.2 ∙ h k x.0 y.0 x.1 y.1 ∙ sym y.2)

done_next : (j k : ℕ) (ks done : List ℕ) → In done j ⊎ In (k ∷ ks) j → In (k ∷ done) j ⊎ In ks j
done_next j k ks done (inl i) = inl (inr i)
done_next j k ks done (inr (inl e)) = inl (inl e)
done_next j k ks done (inr (inr i)) = inr i

module _ (library : LibraryValue) (flat : FlatValue) (f : IsFlat library flat) (x : List ℕ → Bool) (s : Path → ℕ → Bool) (xs ss : List Bool) (value : Path → List ℕ → Bool)
    (given : AreGiven flat f.at x s xs ss) (fits : Fits library x s value) where
  -- the value written for a cover whose inputs are known
  gate_at : (values : List Bool) (k : ℕ) → ((m : ℕ) → In (reads_at flat k) m → IsKnown library f.at value values m) → (p : Place) (c : CoverValue) (flat_cover : FlatCoverValue)
      → slice_get (f.at).covers k ≡ Some p → CoverAt library p.path p.command c → slice_get flat.covers k ≡ Some flat_cover → gate_value library (slice_get flat.covers k) xs ss values ≡ value p.path c.output
  gate_at values k known p c flat_cover g a e =
      let i : IsFlatCover library f.at p flat_cover = f.covers k p flat_cover g e in
      ap (λ o. gate_value library o xs ss values) e
      ∙ ap (λ o. value_of o (map (net_value xs ss values) flat_cover.inputs)) (behind_is library f.at p flat_cover i)
      ∙ ap (cover_value i.cover) (numbers_value library flat f x s xs ss value given fits values p.path i.inputs
      (λ m j. known m (subst (λ o. In (cover_numbers (inputs_at o)) m) (sym e) j)))
      ∙ sym (fits.covers p.path p.command i.cover i.is)
      ∙ ap (λ (y : CoverValue). value p.path y.output) (same_Some i.cover c (sym (cover_at-is library p.path p.command i.cover i.is) ∙ cover_at-is library p.path p.command c a))

  now_known : (values : List Bool) (k : ℕ) → length values ≡ length flat.covers → ((m : ℕ) → In (reads_at flat k) m → IsKnown library f.at value values m)
      → IsKnown library f.at value (slice_set values k (gate_value library (slice_get flat.covers k) xs ss values)) k
  now_known values k len known p c g a =
      let within : k < length (f.at).covers = slice_get_within (f.at).covers k p g in
      let flat_cover = at_within flat.covers k (omega arith) in
      grind (arith, set_here, values, gate_value, xs, gate_at)

  still_known : (values : List Bool) (k : ℕ) (b : Bool) (j : ℕ) → IsKnown library f.at value (slice_set values k b) k → IsKnown library f.at value values j → IsKnown library f.at value (slice_set values k b) j
  still_known values k b j new old = search (rules, cases_Bool, eqb, slice_set, values, eqb-true, set_other, both_ways, eq-eqb)

  evaluated_known : (ks done : List ℕ) (values : List Bool) → IsForward (reads_at flat) done ks → length values ≡ length flat.covers → ((j : ℕ) → In done j → IsKnown library f.at value values j)
      → (j : ℕ) → In done j ⊎ In ks j → IsKnown library f.at value (evaluated library flat xs ss ks values) j
  evaluated_known [] done values order len known j (inl i) = known j i
  evaluated_known [] done values order len known j (inr i) = absurd i
  evaluated_known (k ∷ ks) done values order len known j i =
      let b : Bool = gate_value library (slice_get flat.covers k) xs ss values in
      let new : IsKnown library f.at value (slice_set values k b) k = now_known values k len (λ m q. known m (order.0 m q)) in
      grind (arith, slice_set, values, length-set, still_known, done_next, evaluated_known ks (k ∷ done) (slice_set values k b) order.1 (length-set values k b ∙ len) (λ m q. elim q [ inl e ↦ subst (λ y. IsKnown library f.at value (slice_set values k b) y) (sym e) new | inr r ↦ still_known values k b m new (known m r) ]) j (done_next j k ks done i))

-- the cover of a net's number
number_cover : (number : FlatNet) (m : ℕ) → In (cover_numbers (number ∷ [])) m → number ≡ Cover m
number_cover (Cover j) m (inl e) = ap Cover (sym e)
number_cover (Cover j) m (inr i) = absurd i
number_cover number m i = absurd i

pub flat_evaluates : (library : LibraryValue) (flat : FlatValue) (f : IsFlat library flat) → Evaluates library flat f.at
flat_evaluates library flat f = record {
  each = λ x s xs ss value given fits k i p c g a.
      evaluated_known library flat f x s xs ss value given fits flat.order [] (replicate (length flat.covers) false)
      (reversed_forward (reads_at flat) flat.order (nodes_after (reads_at flat) f.order tt)) (length-replicate (length flat.covers) false) (λ j q. absurd q) k (inr i) p c g a;
  names = λ x s xs ss value given fits path name net number drives numbered among.
      number_value library flat f x s xs ss value given fits (flat_values library flat xs ss) path name number (record { net = net; drives = drives; numbered = numbered })
      (λ m i. evaluated_known library flat f x s xs ss value given fits flat.order [] (replicate (length flat.covers) false)
      (reversed_forward (reads_at flat) flat.order (nodes_after (reads_at flat) f.order tt)) (length-replicate (length flat.covers) false) (λ j q. absurd q) m (inr (among m (number_cover number m i))));
}

-- The flat circuit's cycle is the cycle of its hierarchy.

-- each latch has the state that stands at its place
state_at : (places : List Place) (states : List Bool) (j : ℕ) (p : Place) → AreApart places → length states ≡ length places → slice_get places j ≡ Some p → slice_get states j ≡ Some (state_of places states p.path p.command)
state_at [] states j p apart n e = absurd (none-some p e)
state_at (q ∷ places) [] j p apart n e = absurd (omega arith)
state_at (q ∷ places) (b ∷ states) zero p apart n e = grind (arith, same_Some, cond-true, same_place, same_place-refl)
state_at (q ∷ places) (b ∷ states) (suc j) p apart n e =
    elim (cases_Bool (same_place p q)) [
      | inl t ↦ absurd (apart.0 (subst (In places) (same_place-is p q t) (In-get places j p e)))
      | inr f ↦ state_at places states j p apart.1 (omega (arith, n)) e ∙ ap Some (sym (cond-false (same_place p q) b (state_of places states p.path p.command) f))
    ]

-- its latches are those of the flat circuit
module _ (library : LibraryValue) (flat : FlatValue) (f : IsFlat library flat) (main : ModelValue) (latches : List Place) (are : AreLatches library main latches) where
  main_once : main ≡ f.main
  main_once = same_Some main f.main (sym are.at ∙ f.is_main)

  latches_once : latches ≡ (f.at).latches
  latches_once = order_once library is_latch (subst (λ m. FlatOrder library is_latch [] m latches) main_once are.order) f.latches_order

module _ (library : LibraryValue) (flat : FlatValue) (f : IsFlat library flat) (x : List ℕ → Bool) (s outputs next : List Bool) (c : IsCycle library x s outputs next) where
  abbrev xs : List Bool
  xs = input_values flat x

  abbrev values : List Bool
  values = flat_values library flat xs s

  abbrev state : Path → ℕ → Bool
  state = state_of (f.at).latches s

  main_same : c.main ≡ f.main
  main_same = main_once library flat f c.main c.latches c.are_latches

  latches_same : c.latches ≡ (f.at).latches
  latches_same = latches_once library flat f c.main c.latches c.are_latches

  fits : Fits library x state c.value
  fits = subst (λ l. Fits library x (state_of l s) c.value) latches_same c.fits

  given : AreGiven flat f.at x state xs s
  given = search (rules, slice_get-map, option_map, state_at, places_apart, is_latch, latches_same)

  root_known : (m : ℕ) → In (flat_roots flat) m → IsKnown library f.at c.value values m
  root_known m i = (flat_evaluates library flat f).each x state xs s c.value given fits m (reversed_in flat.order m (nodes_done (reads_at flat) f.order m i))

  outputs_same : outputs ≡ flat_outputs library flat xs s
  outputs_same =
      c.outputs_are ∙ ap (λ (m : ModelValue). map (c.value []) m.outputs) main_same
      ∙ sym (numbers_value library flat f x state xs s c.value given fits values [] f.outputs (λ m i. root_known m (In-left (cover_numbers (map (λ (o : OutPort). o.net) flat.outputs)) (cover_numbers (latch_nets flat.latches)) m i)))
      ∙ map-map (net_value xs s values) (λ (o : OutPort). o.net) flat.outputs

  next_same : next ≡ flat_next library flat xs s
  next_same =
      c.next_are ∙ ap (map (λ (p : Place). next_state (c.value p.path) (latch_at library p))) latches_same
      ∙ same_maps (λ (p : Place). next_state (c.value p.path) (latch_at library p)) (λ (l : FlatLatch). net_value xs s values l.input) (f.at).latches flat.latches f.latch_count (λ k p l a b.
      let i : IsFlatLatch library f.at p l = f.latches k p l a b in
      ap (next_state (c.value p.path)) (latch_at-some library p i.latch i.is)
      ∙ sym (number_value library flat f x state xs s c.value given fits values p.path (i.latch).input l.input i.input
      (λ m j. root_known m (In-right (cover_numbers (map (λ (o : OutPort). o.net) flat.outputs)) (cover_numbers (latch_nets flat.latches)) m
      (cover_among l.input (latch_nets flat.latches) m (In-map (λ (l : FlatLatch). l.input) flat.latches l (In-get flat.latches k l b)) j)))))

module _ (library : LibraryValue) (flat : FlatValue) (f : IsFlat library flat) where
  -- the flat latches' inits are the latches'
  inits_same : inits_of library (f.at).latches ≡ flat_inits flat
  inits_same = same_maps (λ (p : Place). init_state (latch_at library p)) (λ (l : FlatLatch). l.init) (f.at).latches flat.latches f.latch_count
      (λ k p l a b. let i : IsFlatLatch library f.at p l = f.latches k p l a b in ap init_state (latch_at-some library p i.latch i.is) ∙ sym i.init)

  -- the library starts there
  pub its_start : (s : List Bool) → AreInits library s → s ≡ flat_inits flat
  its_start s a = a.are ∙ ap (inits_of library) (latches_once library flat f a.main a.latches a.are_latches) ∙ inits_same

  its_cycle : (x : List ℕ → Bool) (s outputs next : List Bool) → IsCycle library x s outputs next → IsFlatCycle library flat (input_values flat x) s outputs next
  its_cycle x s outputs next c = record {
    states = c.states ∙ ap length (latches_same library flat f x s outputs next c) ∙ sym f.latch_count;
    outputs_are = outputs_same library flat f x s outputs next c;
    next_are = next_same library flat f x s outputs next c;
  }

  -- in a sound library the flat circuit's cycles are the library's
  module _ (sound : IsSound library) where
    are : AreLatches library f.main (f.at).latches
    are = record { at = f.is_main; order = f.latches_order }

    library_cycle : (x : List ℕ → Bool) (s outputs next : List Bool) → IsFlatCycle library flat (input_values flat x) s outputs next → IsCycle library x s outputs next
    library_cycle x s outputs next c =
        let there = cycle_there library (sound_law library sound) f.main (f.at).latches are x s (c.states ∙ f.latch_count) in
        subst₂ (IsCycle library x s) (outputs_same library flat f x s there.output there.next there.is ∙ sym c.outputs_are) (next_same library flat f x s there.output there.next there.is ∙ sym c.next_are) there.is

    pub flat_cycles : HasCycles library flat
    flat_cycles = record {
      agrees = record {
        forth = refines_by (library_machine library) (reading (input_values flat) (flat_machine library flat)) its_cycle its_start;
        back = refines_by (reading (input_values flat) (flat_machine library flat)) (library_machine library) library_cycle
            (λ s e. record { main = f.main; latches = (f.at).latches; are_latches = are; are = e ∙ sym inits_same });
      };
      gives = run_there library (sound_law library sound) f.main (f.at).latches are;
    }
