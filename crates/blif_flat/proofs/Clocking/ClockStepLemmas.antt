-- The walk over the controls: what the net of one control says, and where the walk comes to.
use Rattle.blif_flat.proofs.Common.{◌≡◌, ℕ, ◌+◌, ◌<◌, ◌≤◌, List, [], ◌∷◌, length, drop, drop_of_length-le, Option, Some, None, refl, sym, ap, ◌∙◌, subst, inl, inr, arith, slice_get, same_Some, slice_get_within, at_within, drop_get, Bool, true, false, Result, Ok, Err, ap₂, IfOk, IfErr, option_map, slice_get-map, OrMemory-map, suc, ltb, not, ◌||◌, ◌++◌, map, bytes_eq, filter, IsTrue, option_and_then, ltb-true, ltb-false, lt-ltb, le-ltb, or_parts, cases_Bool, both_ways, none-some, some_then, bytes_decides, list_any-append, list_any-position_none, LibraryValue, position_or_len, net_of_driver, one_net, latch_at-some, flat_all, has_with_names, LatchValue, ModelValue, Path, model_at, inputs_of, LatchAt, input_net, latch_net, cover_net, Drives, IsDriven, IsRead, latch_control, Place, latch_at, is_cover, is_latch, Latch as LatchBody, FlatErr, ClockNotInput, Gate, Instance, places_at, AreInstances, paths_of, IsWritten, Clocks, free, no_input, second, same, IsControl, some_latch, no_latch, NetsValue, table_of, AreAllNets, IsGateAt, AreGatesAt, IsControlled, IsWrittenAt, input_at, IsKeptInput, IsSecond, IsMetInput, IsRefused, not_input, another, ControlNext, ControlFault, IsControlSoFar, CameTo, OrMemory, IsClock, FlatNet, refusal_of, is_gate, data_of, ClockAmong, ClockData, outputs, here as clock_here, AreClockMarks, or_later, Tells, marked_name, clock_named, clock_fault, names_fault, place_of as index_place, has_name, listed, controls, FlatOrder, with_names, input_name, is_control, clock_test, TellsClocks, fun_ext, rules}
use Rattle.blif_flat.specs.ClockFaults.{stop, none, first as clock_first, later}
use Rattle.netlist.specs.declared.flat.FlatNet.TheVariants.{Input, Latch, Cover}
use Rattle.blif_flat.proofs.Clocking.ControlLemmas.{clocks-one}
use Rattle.blif_flat.proofs.Connections.NetCopyLemmas.{latch_of, cover_of, none_found, input_found, latch_found, cover_found}
use Rattle.blif_flat.proofs.Hierarchy.GateLemmas.{HasPlace, has_place, flat_places, place_within, latch_place}
use Rattle.blif_flat.proofs.Hierarchy.InstanceRowLemmas.{paths_of-length}
use Rattle.blif_flat.proofs.Hierarchy.OrderLemmas.{order_first, rows_order}
use Rattle.netlist.proofs.PlaceLemmas.{place_of, one_latch}

-- inputs by their numbers
module _ (inputs : List (List ℕ)) (first : Option ℕ) (j : ℕ) where
  pub kept_first : first ≡ None → j < length inputs → IsKeptInput inputs first j j
  kept_first e h = let n = at_within inputs j h in record { name = n.0; at = n.1; before = inl (ap (input_at inputs) e); after = n.1 }

  pub kept_within : (next : ℕ) → IsKeptInput inputs first j next → next < length inputs
  kept_within next k = slice_get_within inputs next k.name k.after

-- the net of one control
module _ (library : LibraryValue) (instances : List Instance) (are : AreInstances library instances) (nets : NetsValue) (all : AreAllNets library instances nets) (row : ℕ) (control : List ℕ) where
  module _ (inputs : List (List ℕ)) (inputs_are : (main : ModelValue) → model_at library [] ≡ Some main → inputs ≡ inputs_of main) (path : Path) (at : slice_get (paths_of instances) row ≡ Some path) where
    pub none_read : IsDriven library → IsRead library path control → table_of nets row control ≡ None → ⊥
    none_read driven r e =
        let d = driven.driven path control r in
        let t = net_of_driver library driven path control d.0 d.1 in
        none_found library instances are nets all row path at control e t.0 t.1

    input_drives : (j : ℕ) → table_of nets row control ≡ Some (Input j) → (name : List ℕ) → slice_get inputs j ≡ Some name → Drives library path control (input_net name)
    input_drives j e name f = let r = input_found library instances are nets all row path at control inputs inputs_are j e in subst (λ n. Drives library path control (input_net n)) (same_Some r.input name (sym r.at ∙ f)) r.drives

    pub met_input : (first : Option ℕ) (j next : ℕ) → table_of nets row control ≡ Some (Input j) → IsKeptInput inputs first j next → IsMetInput library path control (input_at inputs first) (input_at inputs (Some next))
    met_input first j next e k = record { name = k.name; drives = input_drives j e k.name k.at; before = k.before; after = k.after }

    pub met_another : (first : Option ℕ) (j : ℕ) (fault : FlatErr) → table_of nets row control ≡ Some (Input j) → IsSecond inputs first j fault → IsRefused library path control (input_at inputs first) fault
    met_another first j fault e s = another s.name s.earlier (input_drives j e s.name s.at) s.before s.differs s.is

    pub met_latch : (first : Option ℕ) (k : ℕ) (text : List ℕ) → table_of nets row control ≡ Some (Latch k)
        → ((p : Place) → slice_get (places_at library is_latch (paths_of instances)) k ≡ Some p → IsWritten library (latch_net p.path p.command) text) → IsRefused library path control (input_at inputs first) (ClockNotInput text)
    met_latch first k text e w =
        let r = latch_found library instances are nets all row path at control k e in
        not_input (latch_of r.place) text r.drives (λ name q. cc) (w r.place r.at) refl

    pub met_cover : (first : Option ℕ) (k : ℕ) (text : List ℕ) → table_of nets row control ≡ Some (Cover k)
        → IsWrittenAt library (places_at library is_cover (paths_of instances)) k text → IsRefused library path control (input_at inputs first) (ClockNotInput text)
    met_cover first k text e w =
        let r = cover_found library instances are nets all row path at control k e in
        not_input (cover_of r.place) text r.drives (λ name q. cc) (subst (λ (p : Place). IsWritten library (cover_net p.path p.command) text) (same_Some w.place r.place (sym w.at ∙ r.at)) w.written) refl

  -- numbers in the table are in range
  module _ (here : row < length instances) where
    row_path : (path : Path) × (slice_get (paths_of instances) row ≡ Some path)
    row_path = at_within (paths_of instances) row (let n = paths_of-length instances in omega arith)

    pub input_within : (inputs : List (List ℕ)) → ((main : ModelValue) → model_at library [] ≡ Some main → inputs ≡ inputs_of main) → (j : ℕ) → table_of nets row control ≡ Some (Input j) → j < length inputs
    input_within inputs inputs_are j e = let r = input_found library instances are nets all row row_path.0 row_path.1 control inputs inputs_are j e in slice_get_within inputs j r.input r.at

    pub latch_within : (latches : List Gate) → AreGatesAt (paths_of instances) latches (places_at library is_latch (paths_of instances)) → (k : ℕ) → table_of nets row control ≡ Some (Latch k) → k < length latches
    latch_within latches ats k e =
        let r = latch_found library instances are nets all row row_path.0 row_path.1 control k e in
        place_within (paths_of instances) latches (places_at library is_latch (paths_of instances)) ats k r.place r.at

    pub cover_within : (covers : List Gate) → AreGatesAt (paths_of instances) covers (places_at library is_cover (paths_of instances)) → (k : ℕ) → table_of nets row control ≡ Some (Cover k) → k < length covers
    cover_within covers ats k e =
        let r = cover_found library instances are nets all row row_path.0 row_path.1 control k e in
        place_within (paths_of instances) covers (places_at library is_cover (paths_of instances)) ats k r.place r.at

-- the control of the latch at a place
module _ (library : LibraryValue) (p : Place) (found l : LatchValue) (is : latch_at library p ≡ Some found) (at : LatchAt library p.path p.command l) where
  found_control : found.control ≡ l.control
  found_control = ap (λ (x : LatchValue). x.control) (same_Some found l (sym is ∙ latch_at-some library p l at))

  pub control_read : (control : List ℕ) → found.control ≡ Some control → IsRead library p.path control
  control_read control e = latch_control p.command l at (sym found_control ∙ e)

  pub control_met : (control : List ℕ) (first next : Option (List ℕ)) → found.control ≡ Some control → IsMetInput library p.path control first next → ControlNext library p.path l.control first next
  control_met control first next e m = subst (λ o. ControlNext library p.path o first next) (sym e ∙ found_control) m

  pub control_refused : (control : List ℕ) (first : Option (List ℕ)) (fault : FlatErr) → found.control ≡ Some control → IsRefused library p.path control first fault → ControlFault library p.path l.control first fault
  control_refused control first fault e r = subst (λ o. ControlFault library p.path o first fault) (sym e ∙ found_control) r

-- the walk, place by place
module _ (library : LibraryValue) (places : List Place) where
  module _ (p : Place) (rest : List Place) (l : LatchValue) (at : LatchAt library p.path p.command l) where
    free_on : l.control ≡ None → (first : Option (List ℕ)) → IsControlSoFar library places (p ∷ rest) first → IsControlSoFar library places rest first
    free_on e None h = λ f. h (record {
      each = λ q r i a. elim i [
        | inl s ↦ ap (λ (x : LatchValue). x.control) (one_latch library p.path p.command r l (subst (λ (x : Place). LatchAt library x.path x.command r) s a) at) ∙ e
        | inr j ↦ f.each q r j a
      ];
    })
    free_on e (Some name) h = h

    module _ (first : Option (List ℕ)) (came : CameTo library places (p ∷ rest) first) where
      step_by : (o : Option (List ℕ)) (next : Option (List ℕ)) → l.control ≡ o → ControlNext library p.path o first next → CameTo library places rest next
      step_by None next e s = subst (CameTo library places rest) (sym s) (record { clocks = λ result c. came.clocks result (free p rest l refl at e c); control = free_on e first came.control })
      step_by (Some control) next e m = subst (CameTo library places rest) (sym m.after) (record {
        clocks = λ result c. came.clocks result (same p rest l control m.name refl at e m.drives m.before c);
        control = record { path = p.path; command = p.command; latch = l; at = at; control = control; is = e; drives = m.drives };
      })

      refused_by : (o : Option (List ℕ)) (fault : FlatErr) → l.control ≡ o → ControlFault library p.path o first fault → Clocks library None places (Some fault)
      refused_by None fault e s = absurd s
      refused_by (Some control) fault e (not_input net text t off w q) = came.clocks (Some fault) (no_input p rest l control net text refl at e t off w (ap Some q))
      refused_by (Some control) fault e (another name earlier t f off q) = came.clocks (Some fault) (second p rest l control name earlier refl at e t f off (ap Some q))

-- gate by gate
module _ (library : LibraryValue) (instances : List Instance) (are : AreInstances library instances) (latches : List Gate) (ats : AreGatesAt (paths_of instances) latches (places_at library is_latch (paths_of instances)))
    (i : ℕ) (first : Option (List ℕ)) (came : CameTo library (places_at library is_latch (paths_of instances)) (drop i (places_at library is_latch (paths_of instances))) first) where
  abbrev latch_places : List Place
  latch_places = places_at library is_latch (paths_of instances)

  module _ (g : Gate) (here : slice_get latches i ≡ Some g) where
    next_place : HasPlace (paths_of instances) latches latch_places ats i g
    next_place = has_place (paths_of instances) latches latch_places ats i g here

    next_latch : (l : LatchValue) × LatchAt library next_place.place.path next_place.place.command l
    next_latch = latch_place library instances are i next_place.place next_place.at

    came_first : CameTo library latch_places (next_place.place ∷ drop (i + 1) latch_places) first
    came_first = subst (λ ps. CameTo library latch_places ps first) (drop_get latch_places i next_place.place next_place.at) came

    pub gate_passed : (next : Option (List ℕ))
        → ((p : Place) (l : LatchValue) → IsGateAt (paths_of instances) g p → LatchAt library p.path p.command l → ControlNext library p.path l.control first next)
        → CameTo library (places_at library is_latch (paths_of instances)) (drop (i + 1) (places_at library is_latch (paths_of instances))) next
    gate_passed next h = step_by library latch_places next_place.place (drop (i + 1) latch_places) next_latch.0 next_latch.1 first came_first next_latch.0.control next refl (h next_place.place next_latch.0 next_place.is next_latch.1)

    pub gate_refused : (fault : FlatErr)
        → ((p : Place) (l : LatchValue) → IsGateAt (paths_of instances) g p → LatchAt library p.path p.command l → ControlFault library p.path l.control first fault)
        → Clocks library None (places_at library is_latch (paths_of instances)) (Some fault)
    gate_refused fault h = refused_by library latch_places next_place.place (drop (i + 1) latch_places) next_latch.0 next_latch.1 first came_first next_latch.0.control fault refl (h next_place.place next_latch.0 next_place.is next_latch.1)

  pub all_passed : length latches ≤ i → CameTo library (places_at library is_latch (paths_of instances)) [] first
  all_passed h = subst (λ ps. CameTo library latch_places ps first) (drop_of_length-le latch_places (let n = ats.count in omega arith)) came

-- all latches are passed
module _ (library : LibraryValue) (instances : List Instance) (are : AreInstances library instances) where
  control_is : (o : Option (List ℕ)) → IsControlSoFar library (places_at library is_latch (paths_of instances)) [] o → IsControl library o
  control_is None h = no_latch (λ path i l a. (h (record { each = λ p r i b. absurd i })).each (place_of path i) l
      (flat_all library is_latch are.main (places_at library is_latch (paths_of instances)) are.first (flat_places library instances are is_latch) path a.model i (LatchBody l) a.at a.is refl) a) refl
  control_is (Some name) k = some_latch k.path k.command k.latch k.control name k.at k.is k.drives refl

  pub came_end : (inputs : List (List ℕ)) (control : Option ℕ) → ((j : ℕ) → control ≡ Some j → j < length inputs) → CameTo library (places_at library is_latch (paths_of instances)) [] (input_at inputs control)
      → (main : ModelValue) → inputs ≡ inputs_of main → IsControlled library main (paths_of instances) control
  came_end inputs control within came main e = record {
    clean = came.clocks None (stop refl refl);
    is = subst (λ (l : List (List ℕ)). IsControl library (input_at l control)) e (control_is (input_at inputs control) came.control);
    within = λ j q. subst (λ (l : List (List ℕ)). j < length l) e (within j q);
  }

-- The search for clock nets that are data: what the marks say of a name, of names, and of gates one by one.

-- what a result tells
pub tells_ok : (result : Result (Unit {0}) FlatErr) (fault : Option FlatErr) (P : Type 0) → Tells result fault → (fault ≡ None → P) → IfOk result (λ x. P)
tells_ok (Ok x) fault P t h = h t
tells_ok (Err e) fault P t h = tt

pub tells_err : (result : Result (Unit {0}) FlatErr) (fault : Option FlatErr) (P : FlatErr → Type 0) → Tells result fault → ((r : FlatErr) → fault ≡ Some r → P r) → IfErr result (λ e. OrMemory refusal_of P e)
tells_err (Ok x) fault P t h = tt
tells_err (Err e) fault P t h = OrMemory-map refusal_of (λ r. fault ≡ Some r) P e h t

module _ (library : LibraryValue) (driven : IsDriven library) (instances : List Instance) (are : AreInstances library instances) (nets : NetsValue) (all : AreAllNets library instances nets)
    (inputs : List (List ℕ)) (inputs_are : (main : ModelValue) → model_at library [] ≡ Some main → inputs ≡ inputs_of main)
    (marks : List Bool) (marks_are : (main : ModelValue) → model_at library [] ≡ Some main → AreClockMarks library main marks) where
  marked : AreClockMarks library are.main marks
  marked = marks_are are.main are.first

  mark_at : (j : ℕ) (input : List ℕ) → slice_get inputs j ≡ Some input → slice_get marks j ≡ Some (marked.test input)
  mark_at j input e = grind (arith, slice_get-map, inputs_of, option_map)

  module _ (row : ℕ) (path : Path) (at : slice_get (paths_of instances) row ≡ Some path) where
    -- the name's net is this clock net, or none
    abbrev Says : List ℕ → Option (List ℕ) → Type 0
    Says name None = (net : List ℕ) → Drives library path name (input_net net) → IsClock library net → ⊥
    Says name (Some clock) = Drives library path name (input_net clock) × IsClock library clock

    module _ (name : List ℕ) where
      said_marked : (input : List ℕ) (mark : Bool) → marked.test input ≡ mark → Drives library path name (input_net input) → Says name (marked_name (Some mark) (Some input))
      said_marked input true t d = (d, marked.tells.yes input t)
      said_marked input false f d = λ net t c. (let same : input_net net ≡ input_net input = one_net library driven t d in
          let twin : net ≡ input = cc in
          marked.tells.no input f (subst (IsClock library) twin c))

      said_by : (o : Option FlatNet) → table_of nets row name ≡ o → Says name (clock_named inputs marks o)
      said_by None e = λ net t c. none_found library instances are nets all row path at name e (input_net net) t
      said_by (Some (Input j)) e =
          let r = input_found library instances are nets all row path at name inputs inputs_are j e in
          subst (Says name) (sym (ap₂ marked_name (mark_at j r.input r.at) r.at)) (said_marked r.input (marked.test r.input) refl r.drives)
      said_by (Some (Latch k)) e = λ net t c. (let r = latch_found library instances are nets all row path at name k e in
          let same : latch_net r.place.path r.place.command ≡ input_net net = one_net library driven r.drives t in cc)
      said_by (Some (Cover k)) e = λ net t c. (let r = cover_found library instances are nets all row path at name k e in
          let same : cover_net r.place.path r.place.command ≡ input_net net = one_net library driven r.drives t in cc)

      said : Says name (clock_named inputs marks (table_of nets row name))
      said = said_by (table_of nets row name) refl

    -- one more name before others
    more_among : (n : List ℕ) → Says n None → {names : List (List ℕ)} {result : Option FlatErr} → ClockAmong library path names result → ClockAmong library path (n ∷ names) result
    more_among n s (none h q) = none (λ name net i t c. elim i [ inl e ↦ s net (subst (λ x. Drives library path x (input_net net)) e t) c | inr j ↦ h name net j t c ]) q
    more_among n s (clock_first before rest name net a b t c q) = clock_first (n ∷ before) rest name net (ap (λ l. n ∷ l) a) (more_among n s b) t c q

    with_first : (n : List ℕ) (names : List (List ℕ)) (result : Option FlatErr) (o : Option (List ℕ)) → Says n o → ((r : Option FlatErr) → names_fault inputs marks nets row names ≡ r → ClockAmong library path names r)
        → or_later (clock_fault o) (names_fault inputs marks nets row names) ≡ result → ClockAmong library path (n ∷ names) result
    with_first n names result None s h e = more_among n s (h result e)
    with_first n names result (Some clock) s h e = clock_first [] names n clock refl (none (λ name net i t c. i) refl) s.0 s.1 (sym e)

    pub names_said : (names : List (List ℕ)) (result : Option FlatErr) → names_fault inputs marks nets row names ≡ result → ClockAmong library path names result
    names_said [] result e = none (λ name net i t c. i) (sym e)
    names_said (n ∷ names) result e = with_first n names result (clock_named inputs marks (table_of nets row n)) (said n) (names_said names) e

  -- gate by gate
  module _ (gates : List Gate) (ats : AreGatesAt (paths_of instances) gates (places_at library is_gate (paths_of instances))) (i : ℕ) where
    abbrev gate_places : List Place
    gate_places = places_at library is_gate (paths_of instances)

    module _ (g : Gate) (at : slice_get gates i ≡ Some g) where
      pub data_place : HasPlace (paths_of instances) gates (places_at library is_gate (paths_of instances)) ats i g
      data_place = has_place (paths_of instances) gates gate_places ats i g at

      gate_said : (result : Option FlatErr) → names_fault inputs marks nets g.row (data_of library data_place.place) ≡ result → ClockAmong library data_place.place.path (data_of library data_place.place) result
      gate_said result e = names_said g.row data_place.place.path data_place.is.row (data_of library data_place.place) result e

      pub data_passed : names_fault inputs marks nets g.row (data_of library data_place.place) ≡ None → (main : ModelValue) (result : Option FlatErr)
          → ClockData library main (drop (i + 1) (places_at library is_gate (paths_of instances))) result → ClockData library main (drop i (places_at library is_gate (paths_of instances))) result
      data_passed e main result d = later data_place.place (drop (i + 1) gate_places) (drop_get gate_places i data_place.place data_place.at) (gate_said None e) d

      pub gate_data_refused : (fault : FlatErr) → names_fault inputs marks nets g.row (data_of library data_place.place) ≡ Some fault → (main : ModelValue)
          → ClockData library main (drop i (places_at library is_gate (paths_of instances))) (Some fault)
      gate_data_refused fault e main = clock_here data_place.place (drop (i + 1) gate_places) fault (drop_get gate_places i data_place.place data_place.at) (gate_said (Some fault) e) refl

    -- then the outputs
    pub outputs_said : length gates ≤ i → (main : ModelValue) (result : Option FlatErr) → names_fault inputs marks nets 0 main.outputs ≡ result
        → ClockData library main (drop i (places_at library is_gate (paths_of instances))) result
    outputs_said h main result e =
        outputs (drop_of_length-le gate_places (let n = ats.count in omega arith)) (names_said 0 [] (order_first library are.order) main.outputs result e)

-- The inputs of the main model as they are listed, and their marks, which tell the clock nets.

-- the first place of a name in joined lists is in the first one exactly where the name is
both_more : (p n : ℕ) → ltb (1 + p) (suc n) ≡ ltb p n
both_more p n = search (rules, cases_Bool, ltb, lt-ltb, ltb-true, le-ltb, ltb-false)

place_among : (names more : List (List ℕ)) (x : List ℕ) → ltb (position_or_len (bytes_eq x) (names ++ more)) (length names) ≡ has_name names x
place_among [] more x = le-ltb (position_or_len (bytes_eq x) more) 0 (omega arith)
place_among (n ∷ names) more x = search (rules, cases_Bool, bytes_eq, lt-ltb, both_more, place_among names more x)

module _ (m : ModelValue) where
  pub unlisted : (x : List ℕ) → index_place (inputs_of m) x ≡ None → has_name m.inputs x ≡ false
  unlisted x h =
      let clocks : List (List ℕ) = filter (λ name. not (has_name m.inputs name)) m.clocks in
      (or_parts (has_name m.inputs x) (has_name clocks x) (sym (list_any-append (bytes_eq x) m.inputs clocks) ∙ list_any-position_none (bytes_eq x) (inputs_of m) h)).0

  pub listed_at : (x : List ℕ) (place : ℕ) → index_place (inputs_of m) x ≡ Some place → ltb place (length m.inputs) ≡ has_name m.inputs x
  listed_at x place h = grind (arith, bytes_eq, inputs_of, some_then, ltb, same_Some, place_among, filter, has_name)

  pub marked_inputs : (control : Option ℕ) (given clocks inputs : List (List ℕ)) → given ≡ m.clocks → clocks ≡ with_names [] given → inputs ≡ inputs_of m
      → map (λ name. has_name clocks name || is_control (option_and_then (slice_get inputs) control) name) inputs ≡ map (clock_test m (input_name m control)) (inputs_of m)
  marked_inputs control given clocks inputs b e f =
      let same = fun_ext (λ x. ap (λ t. t || is_control (input_name m control) x) (ap (λ ns. has_name ns x) (e ∙ ap (with_names []) b) ∙ has_with_names [] m.clocks x)) in
      ap (λ (xs : List (List ℕ)). map (λ name. has_name clocks name || is_control (option_and_then (slice_get xs) control) name) xs) f ∙ ap (λ (test : List ℕ → Bool). map test (inputs_of m)) same

module _ (library : LibraryValue) (main : ModelValue) (at : model_at library [] ≡ Some main) where
  -- the net of the controls is a clock net
  control_clock : (name : List ℕ) (control : Option (List ℕ)) → IsControl library control → is_control control name ≡ true → IsClock library name
  control_clock name None c t = absurd (both_ways false refl t)
  control_clock name (Some own) (some_latch path i l read net a e d q) t =
      controls path i l read a e (subst (λ n. Drives library path read (input_net n)) (sym (same_Some own net q) ∙ sym ((bytes_decides name own).0 t)) d)
  control_clock name (Some own) (no_latch h q) t = absurd (none-some own (sym q))

  test_clock : (control : Option (List ℕ)) → IsControl library control → (name : List ℕ) → clock_test main control name ≡ true → IsClock library name
  test_clock control c name t = elim (cases_Bool (has_name main.clocks name)) [
    | inl y ↦ listed main at y
    | inr f ↦ control_clock name control c (sym (ap (λ b. b || is_control control name) f) ∙ t)
  ]

  module _ (driven : IsDriven library) (paths : List Path) (order : FlatOrder library is_latch [] main (places_at library is_latch paths)) (clean : Clocks library None (places_at library is_latch paths) None) where
    -- a main input that is the net of a latch control is that of all
    no_other : (control : Option (List ℕ)) → IsControl library control → (path : Path) (i : ℕ) (l : LatchValue) (read name : List ℕ) → LatchAt library path i l → l.control ≡ Some read → Drives library path read (input_net name)
        → control ≡ Some name
    no_other control (no_latch h q) path i l read name a e d = absurd (none-some read (sym (h path i l a) ∙ e))
    no_other control (some_latch other j k own net b f t q) path i l read name a e d =
        q ∙ ap Some (clocks-one library main at (places_at library is_latch paths) order clean driven other path j i k l own read net name b a f e t d)

    clock_tested : (control : Option (List ℕ)) → IsControl library control → (name : List ℕ) → clock_test main control name ≡ false → IsClock library name → ⊥
    clock_tested control c name f (listed m there t) =
        both_ways (has_name main.clocks name) (or_parts (has_name main.clocks name) (is_control control name) f).0 (subst (λ (y : ModelValue). IsTrue (has_name y.clocks name)) (same_Some m main (sym there ∙ at)) t)
    clock_tested control c name f (controls path i l read a e d) =
        let is : control ≡ Some name = no_other control c path i l read name a e d in
        both_ways (bytes_eq name name) (sym (ap (λ o. is_control o name) is) ∙ (or_parts (has_name main.clocks name) (is_control control name) f).1) ((bytes_decides name name).1 refl)

-- past the controls, the names that are listed as clocks and the net of the controls are the clock nets
pub clocks_told : (library : LibraryValue) → IsDriven library → (instances : List Instance) → AreInstances library instances → (main : ModelValue) → model_at library [] ≡ Some main → (control : Option ℕ)
    → IsControlled library main (paths_of instances) control → TellsClocks library (clock_test main (input_name main control))
clocks_told library driven instances are main at control is =
    let order = rows_order library instances are is_latch main at in
    record { yes = test_clock library main at (input_name main control) is.is; no = clock_tested library main at driven (paths_of instances) order is.clean (input_name main control) is.is }
