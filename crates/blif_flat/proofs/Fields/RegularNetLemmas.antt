-- Nets by the numbers of the regular inputs: an input that is no clock net stands among the regular ones at its number.
use Rattle.blif_flat.proofs.Common.{◌≡◌, ℕ, zero, suc, ◌+◌, Bool, true, false, not, List, [], ◌∷◌, ◌++◌, map, Option, Some, None, refl, sym, ap, ◌∙◌, subst, inl, inr, arith, filter, slice_get, cases_Bool, none-some, same_Some, In, length, drop, drop_of_length-le, ◌≤◌, option_and_then, length-map, In-get, ◌<◌, max, get_or, ap₂, append_assoc, and_from, slice_get_read, LibraryValue, Path, has_name, inputs_of, Net, input_net, Drives, IsClock, listed, FlatNet, Instance, number_or_zero, paths_of, IsNumbered, an_input, a_latch, a_cover, IsNetOf, AreNetsOf, net_places, IsNetFound, NetsValue, table_of, AreAllNets, regular_numbers, renumbered, IsRegular, regular_places, renumbered_or, regular_net, regular_nets, Cover, Latch, LatchValue, ModelValue, CoverAt, LatchAt, IsDriven, cover_input, latch_input, Place, cover_in, latch_in, is_cover, is_latch, Gate, cover_data, latch_data, places_at, AreInstances, IsGateAt, AreGatesAt, gate_body, IsFlatCover, IsFlatLatch, AreFlatCovers, AreFlatLatches, row_model, inputs_or, flat_cover, made_latch, latch_or, flat_latch, is_input, is_output, main_input, model_output, OutPort, most_underscores, out_port, outputs_or, with_unmarked, unmarked_after, CoverValue, Places, none, more, Input, net_of_driver, In-filter, mapped_at, IsOfKind, flat_only, in_has, append-nil}
use Rattle.std.proofs.lemmas.List.Elements.{filter-append}
use Rattle.blif_flat.proofs.Hierarchy.GateLemmas.{place_model, gate_row, latch_place, gate_body-is}
use Rattle.netlist.proofs.UnderscoreLemmas.{most-append}
use Rattle.blif_flat.proofs.Hierarchy.OrderLemmas.{is_cover-some, order_places, order_first}

-- an element that isn't marked has a number, counted on from n, and stands there among those that aren't marked
record IsKept {A : Type 0} (test : A → Bool) (n : ℕ) (xs : List A) (j : ℕ) (x : A) : Type 0 where
  place : ℕ
  number : slice_get (regular_numbers n (map test xs)) j ≡ Some (n + place)
  at : slice_get (filter (λ y. not (test y)) xs) place ≡ Some x

kept_next : {A : Type 0} (test : A → Bool) (n : ℕ) (y : A) (ys : List A) (j : ℕ) (x : A) (b : Bool) → test y ≡ b → ((m : ℕ) → IsKept test m ys j x) → IsKept test n (y ∷ ys) (suc j) x
kept_next test n y ys j x true e rest = let r = rest n in record { place = r.place; number = rw e r.number; at = rw e r.at }
kept_next test n y ys j x false e rest =
    let r = rest (1 + n) in
    record { place = suc r.place; number = rw e (r.number ∙ ap Some (omega arith)); at = rw e r.at }

kept_at : {A : Type 0} (test : A → Bool) (n : ℕ) (xs : List A) (j : ℕ) (x : A) → slice_get xs j ≡ Some x → test x ≡ false → IsKept test n xs j x
kept_at test n [] j x e off = absurd (none-some x e)
kept_at test n (y ∷ ys) zero x e off = grind arith
kept_at test n (y ∷ ys) (suc j) x e off = kept_next test n y ys j x (test y) refl (λ m. kept_at test m ys j x e off)

-- what a test passes in every case is left out
none_kept : {A : Type 0} (test : A → Bool) (xs : List A) → ((x : A) → In xs x → test x ≡ true) → filter (λ y. not (test y)) xs ≡ []
none_kept test [] h = refl
none_kept test (x ∷ xs) h = rw (h x (inl refl)) (none_kept test xs (λ y i. h y (inr i)))

-- a name is driven, and not by a clock net
pub record IsNoClock (library : LibraryValue) (path : Path) (name : List ℕ) : Type 0 where
  pub driven : (net : Net) × Drives library path name net
  pub off : (net : List ℕ) → Drives library path name (input_net net) → IsClock library net → ⊥

module _ (library : LibraryValue) (numbers : List ℕ) (r : IsRegular library numbers) where
  abbrev off : List ℕ → Bool
  off name = not (r.test name)

  clock_marked : (name : List ℕ) → In r.main.clocks name → r.test name ≡ true
  clock_marked name i = elim (cases_Bool (r.test name)) [
    | inl t ↦ t
    | inr f ↦ absurd (r.tells.no name f (listed r.main r.is_main (in_has r.main.clocks name i)))
  ]

  not_marked : (name : List ℕ) → (IsClock library name → ⊥) → r.test name ≡ false
  not_marked name h = elim (cases_Bool (r.test name)) [ inl t ↦ absurd (h (r.tells.yes name t)) | inr f ↦ f ]

  -- the inputs that aren't marked stand in `.inputs`
  pub unmarked_inputs : filter (λ name. not (r.test name)) (inputs_of r.main) ≡ filter (λ name. not (r.test name)) r.main.inputs
  unmarked_inputs =
      let more : List (List ℕ) = filter (λ name. not (has_name r.main.inputs name)) r.main.clocks in
      filter-append off r.main.inputs more
      ∙ ap (λ l. filter off r.main.inputs ++ l) (none_kept r.test more (λ name i. clock_marked name (In-filter (λ y. not (has_name r.main.inputs y)) r.main.clocks name i).0))
      ∙ append-nil (filter off r.main.inputs)

  input_renumbered : (paths : List Path) (name : List ℕ) (j : ℕ) (e : Net) → e ≡ input_net name → slice_get (inputs_of r.main) j ≡ Some name → r.test name ≡ false
      → IsNumbered (regular_places library r.main r.test paths) e (renumbered numbers (Input j))
  input_renumbered paths name j e q g f =
      let k = kept_at r.test 0 (inputs_of r.main) j name g f in
      an_input name k.place q (ap (λ l. slice_get l k.place) (sym unmarked_inputs) ∙ k.at) (ap (λ o. Input (number_or_zero o)) (ap (λ l. slice_get l j) r.numbers_are ∙ k.number ∙ ap Some (omega arith)))

  net_renumbered : (paths : List Path) (e : Net) (number : FlatNet) → IsNumbered (net_places library r.main paths) e number → ((name : List ℕ) → e ≡ input_net name → IsClock library name → ⊥)
      → IsNumbered (regular_places library r.main r.test paths) e (renumbered numbers number)
  net_renumbered paths e number (an_input name j q g n) h =
      subst (λ x. IsNumbered (regular_places library r.main r.test paths) e (renumbered numbers x)) (sym n) (input_renumbered paths name j e q g (not_marked name (h name q)))
  net_renumbered paths e number (a_latch p j q g n) h = a_latch p j q g (ap (renumbered numbers) n)
  net_renumbered paths e number (a_cover p j q g n) h = a_cover p j q g (ap (renumbered numbers) n)

  -- the number of a net that is no clock net
  pub net_regular : (paths : List Path) (path : Path) (name : List ℕ) (number : FlatNet) → IsNetOf library (net_places library r.main paths) path name number
      → ((net : List ℕ) → Drives library path name (input_net net) → IsClock library net → ⊥) → IsNetOf library (regular_places library r.main r.test paths) path name (renumbered numbers number)
  net_regular paths path name number o h = record {
    net = o.net;
    drives = o.drives;
    numbered = net_renumbered paths o.net number o.numbered (λ net e. h net (subst (Drives library path name) e o.drives));
  }

  module _ (instances : List Instance) (n : NetsValue) (nets : AreAllNets library instances n) where
    abbrev at : Places
    at = regular_places library r.main r.test (paths_of instances)

    found_regular : (path : Path) (name : List ℕ) → IsNoClock library path name → (o : Option FlatNet) → IsNetFound library (net_places library r.main (paths_of instances)) path name o
        → IsNetOf library at path name (renumbered_or numbers o)
    found_regular path name c None h = absurd (h c.driven.0 c.driven.1)
    found_regular path name c (Some number) h = net_regular (paths_of instances) path name number h c.off

    pub net_is : (i : ℕ) (path : Path) (name : List ℕ) → slice_get (paths_of instances) i ≡ Some path → IsNoClock library path name
        → IsNetOf library (regular_places library r.main r.test (paths_of instances)) path name (regular_net numbers n i name)
    net_is i path name e c = found_regular path name c (table_of n i name) ((nets.table r.main r.is_main).each i path name e)

    pub nets_are : (i : ℕ) (path : Path) → slice_get (paths_of instances) i ≡ Some path → (names : List (List ℕ)) → ((name : List ℕ) → In names name → IsNoClock library path name)
        → AreNetsOf library (regular_places library r.main r.test (paths_of instances)) path names (regular_nets numbers n i names)
    nets_are i path e [] c = none
    nets_are i path e (name ∷ names) c =
        more name names (regular_net numbers n i name) (regular_nets numbers n i names) (net_is i path name e (c name (inl refl))) (nets_are i path e names (λ other j. c other (inr j)))

-- The flat covers and latches of gates are those of their places.

-- the last step of a list that is mapped one by one
pub all_mapped : {A B : Type 0} (f : A → B) (made : List B) (xs : List A) (i : ℕ) → made ++ map f (drop i xs) ≡ map f xs → length xs ≤ i → made ≡ map f xs
all_mapped f made xs i e h = sym (append-nil made) ∙ sym (ap (λ l. made ++ map f l) (drop_of_length-le xs h)) ∙ e

module _ (library : LibraryValue) (instances : List Instance) (are : AreInstances library instances) where
  -- each cover and each latch among the places of the instances
  pub cover_there : (p : Place) → In (places_at library is_cover (paths_of instances)) p → (c : CoverValue) × CoverAt library p.path p.command c
  cover_there p i =
      let o : IsOfKind library is_cover p = flat_only library is_cover are.main (places_at library is_cover (paths_of instances)) are.first (order_places library is_cover are.order are.first) p i in
      ((is_cover-some o.body o.kind_is).0, record { model = o.model; at = o.at; is = o.is ∙ ap Some (is_cover-some o.body o.kind_is).1 })

  module _ (driven : IsDriven library) (numbers : List ℕ) (r : IsRegular library numbers) (n : NetsValue) (nets : AreAllNets library instances n) where
    abbrev gates_at : Places
    gates_at = regular_places library r.main r.test (paths_of instances)

    cover_no_clock : (path : Path) (i : ℕ) (c : CoverValue) → CoverAt library path i c → (name : List ℕ) → In c.inputs name → IsNoClock library path name
    cover_no_clock path i c a name j =
        let d = driven.driven path name (cover_input i c a j) in
        record { driven = net_of_driver library driven path name d.0 d.1; off = λ net. r.no_clock_data path name net (cover_data i c a j) }

    latch_no_clock : (path : Path) (i : ℕ) (l : LatchValue) → LatchAt library path i l → IsNoClock library path l.input
    latch_no_clock path i l a =
        let d = driven.driven path l.input (latch_input i l a refl) in
        record { driven = net_of_driver library driven path l.input d.0 d.1; off = λ net. r.no_clock_data path l.input net (latch_data i l a refl) }

    -- the flat cover and the flat latch of a gate
    cover_is : (g : Gate) (p : Place) → IsGateAt (paths_of instances) g p → In (places_at library is_cover (paths_of instances)) p → IsFlatCover library gates_at p (flat_cover library instances n numbers g)
    cover_is g p w i =
        let c = cover_there p i in
        let names : inputs_or (option_and_then cover_in (gate_body library instances g)) ≡ (c.0).inputs =
        ap (λ o. inputs_or (option_and_then cover_in o)) (gate_body-is library instances are g p w (c.1).model (Cover c.0) (c.1).at (c.1).is) in
        record {
          cover = c.0;
          is = c.1;
          model = let r = gate_row library instances are g p w in ap (λ o. slice_get library.models (row_model o)) r.1 ∙ place_model library instances are g p w r.0 r.1;
          command = w.command;
          inputs = subst (λ l. AreNetsOf library gates_at p.path (c.0).inputs (regular_nets numbers n g.row l)) (sym names)
              (nets_are library numbers r instances n nets g.row p.path w.row (c.0).inputs (cover_no_clock p.path p.command c.0 c.1));
        }

    made_latch-is : (i : ℕ) (p : Place) (l : LatchValue) → slice_get (paths_of instances) i ≡ Some p.path → LatchAt library p.path p.command l → IsFlatLatch library gates_at p (made_latch numbers n i l)
    made_latch-is i p l e a = record {
      latch = l;
      is = a;
      input = net_is library numbers r instances n nets i p.path l.input e (latch_no_clock p.path p.command l a);
      init = refl;
      clocked = refl;
    }

    latch_is : (g : Gate) (p : Place) → IsGateAt (paths_of instances) g p → (k : ℕ) → slice_get (places_at library is_latch (paths_of instances)) k ≡ Some p → IsFlatLatch library gates_at p (flat_latch library instances n numbers g)
    latch_is g p w k e =
        let l = latch_place library instances are k p e in
        let same : flat_latch library instances n numbers g ≡ made_latch numbers n g.row l.0 =
        ap (λ o. latch_or numbers n g.row (option_and_then latch_in o)) (gate_body-is library instances are g p w (l.1).model (Latch l.0) (l.1).at (l.1).is) in
        subst (IsFlatLatch library gates_at p) (sym same) (made_latch-is g.row p l.0 w.row l.1)

    -- and those of all gates
    pub covers_are : (gates : List Gate) → AreGatesAt (paths_of instances) gates (places_at library is_cover (paths_of instances))
        → AreFlatCovers library (regular_places library r.main r.test (paths_of instances)) (map (flat_cover library instances n numbers) gates)
    covers_are gates w = record {
      count = length-map gates (flat_cover library instances n numbers) ∙ w.count;
      each = λ k p c e f. (
          let g = mapped_at (flat_cover library instances n numbers) gates k c f in
          subst (IsFlatCover library gates_at p) (sym g.2) (cover_is g.0 p (w.each k g.0 p g.1 e) (In-get (places_at library is_cover (paths_of instances)) k p e)));
    }

    pub latches_are : (gates : List Gate) → AreGatesAt (paths_of instances) gates (places_at library is_latch (paths_of instances))
        → AreFlatLatches library (regular_places library r.main r.test (paths_of instances)) (map (flat_latch library instances n numbers) gates)
    latches_are gates w = record {
      count = length-map gates (flat_latch library instances n numbers) ∙ w.count;
      each = λ k p l e f. (
          let g = mapped_at (flat_latch library instances n numbers) gates k l f in
          subst (IsFlatLatch library gates_at p) (sym g.2) (latch_is g.0 p (w.each k g.0 p g.1 e) k e));
    }

-- The ports of a flat circuit: its outputs, its regular inputs, and the greatest number of leading underscores.

-- the names and the nets of ports
port_names : (numbers : List ℕ) (n : NetsValue) (names : List (List ℕ)) → map (λ (o : OutPort). o.name) (map (out_port numbers n) names) ≡ names
port_names numbers n [] = refl
port_names numbers n (name ∷ names) = ap (λ (l : List (List ℕ)). name ∷ l) (port_names numbers n names)

port_nets : (numbers : List ℕ) (n : NetsValue) (names : List (List ℕ)) → map (λ (o : OutPort). o.net) (map (out_port numbers n) names) ≡ regular_nets numbers n 0 names
port_nets numbers n [] = refl
port_nets numbers n (name ∷ names) = ap (λ (l : List FlatNet). (out_port numbers n name).net ∷ l) (port_nets numbers n names)

module _ (library : LibraryValue) (instances : List Instance) (are : AreInstances library instances) (driven : IsDriven library)
    (numbers : List ℕ) (r : IsRegular library numbers) (n : NetsValue) (nets : AreAllNets library instances n) where
  -- an output of the main model is an input too, or driven inside
  output_driven : (name : List ℕ) → In r.main.outputs name → (net : Net) × Drives library [] name net
  output_driven name i = elim (cases_Bool (is_input r.main name)) [
    | inl t ↦ (input_net name, main_input refl (record { model = r.main; at = r.is_main; is = t }) refl)
    | inr f ↦ (
        let d = driven.driven [] name (model_output r.main r.is_main (and_from (not (is_input r.main name)) (has_name r.main.outputs name) (ap not f) (in_has r.main.outputs name i))) in
        net_of_driver library driven [] name d.0 d.1)
  ]

  main_outputs : outputs_or (slice_get library.models 0) ≡ r.main.outputs
  main_outputs = ap outputs_or r.is_main

  pub output_names : (ports : List OutPort) (names : List (List ℕ)) → ports ≡ map (out_port numbers n) names → names ≡ outputs_or (slice_get library.models 0)
      → map (λ (o : OutPort). o.name) ports ≡ r.main.outputs
  output_names ports names e f = ap (map (λ (o : OutPort). o.name)) e ∙ port_names numbers n names ∙ f ∙ main_outputs

  pub output_nets : (ports : List OutPort) (names : List (List ℕ)) → ports ≡ map (out_port numbers n) names → names ≡ outputs_or (slice_get library.models 0)
      → AreNetsOf library (regular_places library r.main r.test (paths_of instances)) [] r.main.outputs (map (λ (o : OutPort). o.net) ports)
  output_nets ports names e f =
      let all : map (λ (o : OutPort). o.net) ports ≡ regular_nets numbers n 0 r.main.outputs = ap (map (λ (o : OutPort). o.net)) e ∙ port_nets numbers n names ∙ ap (regular_nets numbers n 0) (f ∙ main_outputs) in
      subst (AreNetsOf library (regular_places library r.main r.test (paths_of instances)) [] r.main.outputs) (sym all)
      (nets_are library numbers r instances n nets 0 [] (order_first library are.order) r.main.outputs (λ name i. record { driven = output_driven name i; off = λ net. r.no_clock_output name net i }))

-- the names whose marks are off, one by one
no_marks : (kept names : List (List ℕ)) → unmarked_after kept names [] ≡ kept
no_marks kept [] = refl
no_marks kept (name ∷ names) = refl

unmarked_next : (kept names : List (List ℕ)) (marks : List Bool) (i : ℕ) (name : List ℕ) → slice_get names i ≡ Some name
    → unmarked_after (with_unmarked kept (slice_get marks i) name) (drop (suc i) names) (drop (suc i) marks) ≡ unmarked_after kept (drop i names) (drop i marks)
unmarked_next kept [] marks i name e = absurd (none-some name e)
unmarked_next kept (x ∷ xs) [] zero name e = no_marks kept xs
unmarked_next kept (x ∷ xs) (m ∷ ms) zero name e = ap (λ y. unmarked_after (with_unmarked kept (Some m) y) xs ms) (sym (same_Some x name e))
unmarked_next kept (x ∷ xs) [] (suc i) name e = no_marks kept (drop (suc i) xs) ∙ sym (no_marks kept (drop i xs))
unmarked_next kept (x ∷ xs) (m ∷ ms) (suc i) name e = unmarked_next kept xs ms i name e

pub unmarked_step : (kept new whole names : List (List ℕ)) (marks : List Bool) (i : ℕ) (name : List ℕ) → i < length names → name ≡ get_or names i name → new ≡ with_unmarked kept (slice_get marks i) name
    → unmarked_after kept (drop i names) (drop i marks) ≡ whole → unmarked_after new (drop (i + 1) names) (drop (i + 1) marks) ≡ whole
unmarked_step kept new whole names marks i name h e f g = grind (arith, unmarked_after, unmarked_next, slice_get_read)

unmarked_head : (test : List ℕ → Bool) (kept : List (List ℕ)) (name : List ℕ) (names : List (List ℕ)) (b : Bool) → test name ≡ b
    → with_unmarked kept (Some b) name ++ filter (λ y. not (test y)) names ≡ kept ++ filter (λ y. not (test y)) (name ∷ names)
unmarked_head test kept name names true e = rw e refl
unmarked_head test kept name names false e = append_assoc kept (name ∷ []) (filter (λ y. not (test y)) names) ∙ rw e refl

-- are those that the test leaves off
unmarked_are : (test : List ℕ → Bool) (kept names others : List (List ℕ)) → unmarked_after kept names (map test (names ++ others)) ≡ kept ++ filter (λ y. not (test y)) names
unmarked_are test kept [] others = sym (append-nil kept)
unmarked_are test kept (name ∷ names) others = unmarked_are test (with_unmarked kept (Some (test name)) name) names others ∙ unmarked_head test kept name names (test name) refl

pub regular_names : (test : List ℕ → Bool) (kept given : List (List ℕ)) (marks : List Bool) (m : ModelValue)
    → kept ≡ unmarked_after [] given marks → given ≡ m.inputs → marks ≡ map test (inputs_of m) → kept ≡ filter (λ name. not (test name)) m.inputs
regular_names test kept given marks m e f g = grind (arith, ap₂, unmarked_after, unmarked_are, filter, has_name)

pub most_of_three : (xs ys zs : List (List ℕ)) (a b c : ℕ) → a ≡ max 0 (most_underscores xs) → b ≡ max a (most_underscores ys) → c ≡ max b (most_underscores zs) → c ≡ most_underscores (xs ++ (ys ++ zs))
most_of_three xs ys zs a b c e f g = omega (arith, most-append xs (ys ++ zs) ∙ ap (max (most_underscores xs)) (most-append ys zs))
