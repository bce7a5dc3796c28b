-- How the instances of rows are connected: an inner one by the line that places it, and the main model's own by none.
use Rattle.blif_flat.proofs.Common.{◌≡◌, ℕ, zero, suc, ◌<◌, List, [], ◌∷◌, ◌++◌, length, map, Option, Some, None, refl, sym, ap, ◌∙◌, subst, inl, inr, arith, slice_get, option_and_then, none-some, same_Some, slice_get_within, In, In-left, In-right, In-map, at_within, item_there, ◌≤◌, get_or, IsTrue, or_cases, slice_get_read, apart_once, Body, Cover, Latch, Subckt, Command, Connection, ModelValue, Path, with_subckt, subckts_of, model_at, ConnectionAt, Instance, path_of, paths_of, IsRow, AreInstances, body_names, commands_names, Link, line_of, link_of, link_under, link_at, has_name, is_input, is_output, inputs_of, IsDriven, is_cover, is_latch, Gate, places_at, AreGatesAt, IsSoundTable, HasOwn, HasOutputs, HasInputs, AreNetsAt, net_places, HasSlots, AreEmptyNets, IsNext, AreAllNets, NetsValue, table_of, IsNets, output_of_cover, output_of_latch, with_covers, with_latches, with_inputs, linked_out, linked_in, formal_of, actual_of, links_out, links_in, AreLinesOf, IsWellFormed, Ports, ports_value, IsLight, SubcktValue, LibraryValue, Places, Inside, inside, child_at, has_in, rules}
use Rattle.netlist.specs.declared.flat.FlatNet.TheVariants.{Latch as LatchNumber, Cover as CoverNumber}
use Rattle.blif_flat.proofs.Connections.NetCopyLemmas.{sound_empty, own_kept, inputs_start, outputs_start, inputs_step, outputs_step, next_same, next_on, pairs_next, pairs_known, IsConnection, passes_out, passes_in}
use Rattle.blif_flat.proofs.Connections.NetLemmas.{HasParent, has_parent, formal_known, actual_known, table_found}
use Rattle.blif_flat.proofs.Connections.NetOwnLemmas.{commands_within, slots_on, gates_next, gates_known, covers_own, latches_own, gate_of, input_named, main_next, main_known}
use Rattle.blif_flat.proofs.Hierarchy.InstanceRowLemmas.{paths_of-length}
use Rattle.blif_flat.proofs.Hierarchy.InstanceWeightLemmas.{few_inputs}
use Rattle.blif_flat.proofs.Hierarchy.OrderLemmas.{instances_apart, order_first}

-- the actuals of a subcircuit are among the names of its model
body_actual : (b : Body) (cs : List Command) (k : ℕ) (s : SubcktValue) (pair : Connection) → ((j : ℕ) → slice_get (subckts_of cs) j ≡ Some s → In (commands_names cs) pair.actual)
    → slice_get (with_subckt b (subckts_of cs)) k ≡ Some s → In s.pairs pair → In (body_names b ++ commands_names cs) pair.actual
body_actual (Cover c) cs k s pair rest e i = In-right (body_names (Cover c)) (commands_names cs) pair.actual (rest k e)
body_actual (Latch l) cs k s pair rest e i = In-right (body_names (Latch l)) (commands_names cs) pair.actual (rest k e)
body_actual (Subckt t) cs zero s pair rest e i =
    In-left (body_names (Subckt t)) (commands_names cs) pair.actual (In-map (λ (p : Connection). p.actual) t.pairs pair (subst (λ (x : SubcktValue). In x.pairs pair) (sym (same_Some t s e)) i))
body_actual (Subckt t) cs (suc k) s pair rest e i = In-right (body_names (Subckt t)) (commands_names cs) pair.actual (rest k e)

actual_named : (cs : List Command) (k : ℕ) (s : SubcktValue) (pair : Connection) → slice_get (subckts_of cs) k ≡ Some s → In s.pairs pair → In (commands_names cs) pair.actual
actual_named [] k s pair e i = absurd (none-some s e)
actual_named (c ∷ cs) k s pair e i = body_actual c.body cs k s pair (λ j f. actual_named cs j s pair f i) e i

module _ (library : LibraryValue) (instances : List Instance) (are : AreInstances library instances) where
  -- an inner instance, and what connects it
  pub record IsLinked (j k : ℕ) (path : Path) : Type 0 where
    pub link : Link
    pub is : link_at library instances j ≡ Some link
    pub outside : slice_get (paths_of instances) link.outer ≡ Some path
    pub there : model_at library (k ∷ path) ≡ Some link.child
    pub earlier : link.outer < j
    pub connects : (pair : Connection) → In link.pairs pair → (a : ConnectionAt library path k pair) × (a.child ≡ link.child)
    pub all : (pair : Connection) → ConnectionAt library path k pair → In link.pairs pair

  pub linked : (j k : ℕ) (path : Path) → slice_get (paths_of instances) j ≡ Some (k ∷ path) → IsLinked j k path
  linked j k path e =
      let row = item_there (paths_of instances) instances j (k ∷ path) (paths_of-length instances) e in
      let r : IsRow library (paths_of instances) j row.0 = are.each j row.0 row.1 in
      let same : r.path ≡ k ∷ path = same_Some r.path (k ∷ path) (sym r.at ∙ e) in
      let h : HasParent (paths_of instances) row.0 k path = has_parent (paths_of instances) row.0 k path (sym r.is ∙ same) in
      let outer = item_there (paths_of instances) instances h.place path (paths_of-length instances) h.at in
      let q : IsRow library (paths_of instances) h.place outer.0 = are.each h.place outer.0 outer.1 in
      let child : model_at library (k ∷ path) ≡ Some r.model = ap (model_at library) (sym same) ∙ r.there in
      let w : Inside library path k r.model = inside library path k r.model child in
      let model : q.model ≡ w.model = same_Some q.model w.model (sym q.there ∙ ap (model_at library) (same_Some q.path path (sym q.at ∙ h.at)) ∙ w.at) in
      let line : line_of library instances h.place (row.0).ordinal ≡ Some w.subckt = grind (arith, option_and_then, subckts_of) in
      record {
        link = record { outer = h.place; child = r.model; pairs = (w.subckt).pairs };
        is = grind (arith, option_and_then, link_under, link_of);
        outside = h.at;
        there = child;
        earlier = r.earlier h.place h.parent;
        connects = λ pair i. (record { model = w.model; subckt = w.subckt; child = r.model; at = w.at; is = w.is; member = i; places = w.places }, refl);
        all = λ pair a. grind (arith, same_Some, subckts_of);
      }

  -- the main model's own instance stands in no other one
  inner_path : (row : Instance) (p : ℕ) (path : Path) → row.parent ≡ Some p → slice_get (paths_of instances) p ≡ Some path → path_of (paths_of instances) row ≡ row.ordinal ∷ path
  inner_path row p path e f = rw (e, f) refl

  no_link : (j : ℕ) (row : Instance) → slice_get (paths_of instances) j ≡ Some [] → IsRow library (paths_of instances) j row → (parent : Option ℕ) → row.parent ≡ parent → link_under library instances row parent ≡ None
  no_link j row e r None f = refl
  no_link j row e r (Some p) f =
      let there : j < length (paths_of instances) = slice_get_within (paths_of instances) j [] e in
      let before : p < j = r.earlier p f in
      let outer = at_within (paths_of instances) p (omega arith) in
      let same : [] ≡ r.path = same_Some [] r.path (sym e ∙ r.at) in
      let inner : ◌≡◌ {A = Path} [] (row.ordinal ∷ outer.0) = same ∙ r.is ∙ inner_path row p outer.0 f outer.1 in
      absurd (cc)

  pub first_alone : (j : ℕ) → slice_get (paths_of instances) j ≡ Some [] → link_at library instances j ≡ None
  first_alone j e =
      let row = item_there (paths_of instances) instances j [] (paths_of-length instances) e in
      ap (option_and_then (λ (x : Instance). link_under library instances x x.parent)) row.1 ∙ no_link j row.0 e (are.each j row.0 row.1) (row.0).parent refl

-- The nets of all instances become known, step by step: outputs from the inside out, and then inputs from the outside in.
module _ (library : LibraryValue) (main : ModelValue) (instances : List Instance) (are : AreInstances library instances) (driven : IsDriven library) (first : model_at library [] ≡ Some main) where
  abbrev at : Places
  at = net_places library main (paths_of instances)

  -- nets so far: each name has its slot, and what is known is right
  record AreRight (n : NetsValue) : Type 0 where
    nets : IsNets n
    sound : IsSoundTable library at (paths_of instances) (table_of n)
    slots : HasSlots library (paths_of instances) n

  right_on : (n next : NetsValue) → AreRight n → IsNext library at (paths_of instances) n next → AreRight next
  right_on n next right step = record { nets = step.nets; sound = step.sound; slots = slots_on library at (paths_of instances) n next right.slots step }

  -- the outputs of an instance go out
  out_next : (n : NetsValue) → AreRight n → (t : ℕ) (path : Path) → slice_get (paths_of instances) t ≡ Some path → IsNext library at (paths_of instances) n (linked_out n t (link_at library instances t))
  out_next n right t [] e = subst (λ o. IsNext library at (paths_of instances) n (linked_out n t o)) (sym (first_alone library instances are t e)) (next_same library at (paths_of instances) n right.nets right.sound)
  out_next n right t (k ∷ path) e =
      let l : IsLinked library instances are t k path = linked library instances are t k path e in
      subst (λ o. IsNext library at (paths_of instances) n (linked_out n t o)) (sym l.is)
      (pairs_next library at (paths_of instances) (is_output (l.link).child) formal_of actual_of t (l.link).outer (k ∷ path) path e l.outside (IsConnection library at (paths_of instances) (l.link).child path k) (passes_out library at (paths_of instances) (l.link).child path k) (l.link).pairs n right.nets right.sound l.connects)

  out_known : (n : NetsValue) → AreRight n → HasOwn library (paths_of instances) (table_of n) → (t : ℕ) → HasOutputs library (paths_of instances) (table_of n) (suc t)
      → (i : ℕ) (path : Path) (k : ℕ) (pair : Connection) (a : ConnectionAt library path k pair) → IsTrue (is_output a.child pair.formal) → slice_get (paths_of instances) i ≡ Some path → slice_get (paths_of instances) t ≡ Some (k ∷ path)
      → table_of (linked_out n t (link_at library instances t)) i pair.actual ≡ None → ⊥
  out_known n right own t outputs i path k pair a out e f =
      let l : IsLinked library instances are t k path = linked library instances are t k path f in
      let place : (l.link).outer ≡ i = apart_once (paths_of instances) (l.link).outer i path (instances_apart library are.order) l.outside e in
      let child : a.child ≡ (l.link).child = same_Some a.child (l.link).child (sym (child_at library path k pair a) ∙ l.there) in
      let known : table_of (linked_out n t (Some l.link)) (l.link).outer pair.actual ≡ None → ⊥ =
      pairs_known library at (paths_of instances) (is_output (l.link).child) formal_of actual_of t (l.link).outer (k ∷ path) path f l.outside (IsConnection library at (paths_of instances) (l.link).child path k) (passes_out library at (paths_of instances) (l.link).child path k)
      (l.link).pairs n right.nets right.sound l.connects pair (l.all pair a) (subst (λ m. IsTrue (is_output m pair.formal)) child out)
      (formal_known library instances are driven (table_of n) own (suc t) outputs t path k pair a out f (omega arith))
      ((right.slots).each (l.link).outer path a.model pair.actual l.outside a.at (commands_within a.model pair.actual (actual_named (a.model).commands k a.subckt pair a.is a.member))) in
      subst (λ o. table_of (linked_out n t o) i pair.actual ≡ None → ⊥) (sym l.is) (subst (λ j. table_of (linked_out n t (Some l.link)) j pair.actual ≡ None → ⊥) place known)

  outs : (t : ℕ) → t ≤ length (paths_of instances) → (n : NetsValue) → AreRight n → HasOwn library (paths_of instances) (table_of n) → HasOutputs library (paths_of instances) (table_of n) t
      → IsNext library at (paths_of instances) n (links_out library instances n t) × HasOutputs library (paths_of instances) (table_of (links_out library instances n t)) 0
  outs zero h n right own outputs = (next_same library at (paths_of instances) n right.nets right.sound, outputs)
  outs (suc t) h n right own outputs =
      let next : NetsValue = linked_out n t (link_at library instances t) in
      let here = at_within (paths_of instances) t (omega arith) in
      let one : IsNext library at (paths_of instances) n next = out_next n right t here.0 here.1 in
      let r = outs t (omega arith) next (right_on n next right one) (own_kept library (paths_of instances) (table_of n) (table_of next) own one.kept)
      (outputs_step library (paths_of instances) (table_of n) (table_of next) t outputs one.kept (out_known n right own t outputs)) in
      (next_on library at (paths_of instances) n next (links_out library instances next t) one r.0, r.1)

  -- the inputs of an instance go in
  in_next : (n : NetsValue) → AreRight n → (t : ℕ) (path : Path) → slice_get (paths_of instances) t ≡ Some path → IsNext library at (paths_of instances) n (linked_in n t (link_at library instances t))
  in_next n right t [] e = subst (λ o. IsNext library at (paths_of instances) n (linked_in n t o)) (sym (first_alone library instances are t e)) (next_same library at (paths_of instances) n right.nets right.sound)
  in_next n right t (k ∷ path) e =
      let l : IsLinked library instances are t k path = linked library instances are t k path e in
      subst (λ o. IsNext library at (paths_of instances) n (linked_in n t o)) (sym l.is)
      (pairs_next library at (paths_of instances) (is_input (l.link).child) actual_of formal_of (l.link).outer t path (k ∷ path) l.outside e (IsConnection library at (paths_of instances) (l.link).child path k) (passes_in library at (paths_of instances) (l.link).child path k) (l.link).pairs n right.nets right.sound l.connects)

  -- the nets of all covers and latches are known, those of all outputs, and those of the main model's inputs
  record AreReady (n : NetsValue) : Type 0 where
    right : AreRight n
    own : HasOwn library (paths_of instances) (table_of n)
    outputs : HasOutputs library (paths_of instances) (table_of n) 0
    mains : (name : List ℕ) → IsTrue (is_input main name) → table_of n 0 name ≡ None → ⊥

  ready_on : (n next : NetsValue) → AreReady n → IsNext library at (paths_of instances) n next → AreReady next
  ready_on n next ready step = record {
    right = right_on n next ready.right step;
    own = own_kept library (paths_of instances) (table_of n) (table_of next) ready.own step.kept;
    outputs = record { each = λ i j path k pair a out e f h. step.kept.each i pair.actual (ready.outputs.each i j path k pair a out e f h) };
    mains = λ name is. (step.kept).each 0 name (ready.mains name is);
  }

  in_known : (n : NetsValue) → AreReady n → (t : ℕ) → HasInputs library (paths_of instances) (table_of n) t → (path : Path) (m : ModelValue) → slice_get (paths_of instances) t ≡ Some path → model_at library path ≡ Some m
      → (name : List ℕ) → IsTrue (is_input m name) → table_of (linked_in n t (link_at library instances t)) t name ≡ None → ⊥
  in_known n ready t inputs [] m e there name is =
      let place : 0 ≡ t = apart_once (paths_of instances) 0 t [] (instances_apart library are.order) (order_first library are.order) e in
      let model : m ≡ main = same_Some m main (sym there ∙ first) in
      let step : IsNext library at (paths_of instances) n (linked_in n t (link_at library instances t)) = in_next n ready.right t [] e in
      (step.kept).each t name (subst (λ j. table_of n j name ≡ None → ⊥) place (ready.mains name (subst (λ x. IsTrue (is_input x name)) model is)))
  in_known n ready t inputs (k ∷ path) m e there name is =
      let right : AreRight n = ready.right in
      let l : IsLinked library instances are t k path = linked library instances are t k path e in
      let c = driven.connected path k m name there is in
      let model : m ≡ (l.link).child = same_Some m (l.link).child (sym there ∙ l.there) in
      let child : m ≡ (c.1).child = same_Some m (c.1).child (sym there ∙ child_at library path k c.0 c.1) in
      let formal : IsTrue (is_input m (c.0).formal) = subst (λ x. IsTrue (is_input m x)) (sym c.2) is in
      let known : table_of (linked_in n t (Some l.link)) t (c.0).formal ≡ None → ⊥ =
      pairs_known library at (paths_of instances) (is_input (l.link).child) actual_of formal_of (l.link).outer t path (k ∷ path) l.outside e (IsConnection library at (paths_of instances) (l.link).child path k) (passes_in library at (paths_of instances) (l.link).child path k)
      (l.link).pairs n right.nets right.sound l.connects c.0 (l.all c.0 c.1) (subst (λ x. IsTrue (is_input x (c.0).formal)) model formal)
      (actual_known library instances are driven (table_of n) ready.own ready.outputs t inputs (l.link).outer path k c.0 c.1 (subst (λ x. IsTrue (is_input x (c.0).formal)) child formal) l.outside l.earlier)
      ((right.slots).each t (k ∷ path) m (c.0).formal e there (input_named m (c.0).formal formal)) in
      subst (λ o. table_of (linked_in n t o) t name ≡ None → ⊥) (sym l.is) (subst (λ x. table_of (linked_in n t (Some l.link)) t x ≡ None → ⊥) c.2 known)

  ins : (t : ℕ) → t ≤ length (paths_of instances) → (n : NetsValue) → AreReady n → IsNext library at (paths_of instances) n (links_in library instances n t) × HasInputs library (paths_of instances) (table_of (links_in library instances n t)) t
  ins zero h n ready =
      let right : AreRight n = ready.right in
      (next_same library at (paths_of instances) n right.nets right.sound, inputs_start library (paths_of instances) (table_of n))
  ins (suc t) h n ready =
      let r = ins t (omega arith) n ready in
      let middle : NetsValue = links_in library instances n t in
      let so_far : AreReady middle = ready_on n middle ready r.0 in
      let here = at_within (paths_of instances) t (omega arith) in
      let row = item_there (paths_of instances) instances t here.0 (paths_of-length instances) here.1 in
      let is = are.each t row.0 row.1 in
      let there : model_at library here.0 ≡ Some is.model = ap (model_at library) (same_Some here.0 is.path (sym here.1 ∙ is.at)) ∙ is.there in
      let next : NetsValue = linked_in middle t (link_at library instances t) in
      let one : IsNext library at (paths_of instances) middle next = in_next middle so_far.right t here.0 here.1 in (
        next_on library at (paths_of instances) n middle next r.0 one,
        inputs_step library (paths_of instances) (table_of middle) (table_of next) t here.0 is.model r.1 one.kept here.1 there (in_known middle so_far t r.1 here.0 is.model here.1 there),
      )

  -- the nets at their drivers
  module _ (covers latches : List Gate) (empty : NetsValue) (covers_at : AreGatesAt (paths_of instances) covers (places_at library is_cover (paths_of instances)))
      (latches_at : AreGatesAt (paths_of instances) latches (places_at library is_latch (paths_of instances))) (start : AreEmptyNets library (paths_of instances) empty) where
    abbrev covered : NetsValue
    covered = with_covers library instances empty 0 covers

    abbrev latched : NetsValue
    latched = with_latches library instances covered 0 latches

    abbrev listed : NetsValue
    listed = with_inputs (inputs_of main) latched main.inputs

    abbrev clocked : NetsValue
    clocked = with_inputs (inputs_of main) listed main.clocks

    empty_right : AreRight empty
    empty_right = record { nets = start.nets; sound = sound_empty library at (paths_of instances) (table_of empty) start.empty; slots = start.slots }

    covered_next : IsNext library at (paths_of instances) empty covered
    covered_next = let r : AreRight empty = empty_right in gates_next library at (paths_of instances) instances output_of_cover (λ j. CoverNumber j) covers 0 empty r.nets r.sound (covers_own library main instances are covers covers_at)

    latched_next : IsNext library at (paths_of instances) covered latched
    latched_next =
        let r : AreRight covered = right_on empty covered empty_right covered_next in
        gates_next library at (paths_of instances) instances output_of_latch (λ j. LatchNumber j) latches 0 covered r.nets r.sound (latches_own library main instances are latches latches_at)

    latched_right : AreRight latched
    latched_right = right_on covered latched (right_on empty covered empty_right covered_next) latched_next

    latched_own : HasOwn library (paths_of instances) (table_of latched)
    latched_own =
        let r : AreRight empty = empty_right in
        let s : AreRight covered = right_on empty covered r covered_next in
        let step : IsNext library at (paths_of instances) covered latched = latched_next in
        record {
          latch = λ i path c l e a n.
              (let g = gate_of library main instances are is_latch latches latches_at i path a.model c (Latch l) e a.at a.is refl in
              gates_known library at (paths_of instances) instances output_of_latch (λ j. LatchNumber j) latches 0 covered s.nets s.sound s.slots (latches_own library main instances are latches latches_at) g.number g.gate l.output g.at
              (ap (option_and_then output_of_latch) g.is) (subst (λ j. table_of latched j l.output ≡ None) (sym g.row) n));
          cover = λ i path c x e a n.
              (let g = gate_of library main instances are is_cover covers covers_at i path a.model c (Cover x) e a.at a.is refl in
              let known : table_of covered (g.gate).row x.output ≡ None → ⊥ =
              gates_known library at (paths_of instances) instances output_of_cover (λ j. CoverNumber j) covers 0 empty r.nets r.sound r.slots (covers_own library main instances are covers covers_at) g.number g.gate x.output g.at
              (ap (option_and_then output_of_cover) g.is) in
              (step.kept).each i x.output (subst (λ j. table_of covered j x.output ≡ None → ⊥) g.row known) n);
        }

    listed_next : IsNext library at (paths_of instances) latched listed
    listed_next = let r : AreRight latched = latched_right in main_next library main instances are first main.inputs latched r.nets r.sound

    clocked_next : IsNext library at (paths_of instances) listed clocked
    clocked_next = let r : AreRight listed = right_on latched listed latched_right listed_next in main_next library main instances are first main.clocks listed r.nets r.sound

    mains_known : (name : List ℕ) → IsTrue (is_input main name) → table_of clocked 0 name ≡ None → ⊥
    mains_known name is n =
        let r : AreRight latched = latched_right in
        let s : AreRight listed = right_on latched listed r listed_next in
        let step : IsNext library at (paths_of instances) listed clocked = clocked_next in
        elim (or_cases (has_name main.inputs name) (has_name main.clocks name) is) [
          | inl y ↦ (step.kept).each 0 name (main_known library main instances are first main.inputs latched r.nets r.sound r.slots name (has_in main.inputs name y) is) n
          | inr y ↦ main_known library main instances are first main.clocks listed s.nets s.sound s.slots name (has_in main.clocks name y) is n
        ]

    clocked_right : AreRight clocked
    clocked_right = right_on listed clocked (right_on latched listed latched_right listed_next) clocked_next

    clocked_own : HasOwn library (paths_of instances) (table_of clocked)
    clocked_own =
        let a : IsNext library at (paths_of instances) latched listed = listed_next in
        let b : IsNext library at (paths_of instances) listed clocked = clocked_next in
        own_kept library (paths_of instances) (table_of listed) (table_of clocked) (own_kept library (paths_of instances) (table_of latched) (table_of listed) latched_own a.kept) b.kept

    abbrev pulled : NetsValue
    pulled = links_out library instances clocked (length instances)

    pulled_ready : AreReady pulled
    pulled_ready =
        let same : length (paths_of instances) ≡ length instances = paths_of-length instances in
        let start : HasOutputs library (paths_of instances) (table_of clocked) (length instances) = subst (HasOutputs library (paths_of instances) (table_of clocked)) same (outputs_start library (paths_of instances) (table_of clocked)) in
        let r = outs (length instances) (omega arith) clocked clocked_right clocked_own start in
        let step : IsNext library at (paths_of instances) clocked pulled = r.0 in
        record {
          right = right_on clocked pulled clocked_right step;
          own = own_kept library (paths_of instances) (table_of clocked) (table_of pulled) clocked_own step.kept;
          outputs = r.1;
          mains = λ name is. (step.kept).each 0 name (mains_known name is);
        }

    abbrev pushed : NetsValue
    pushed = links_in library instances pulled (length instances)

    pushed_found : IsNets pushed × AreNetsAt library at (paths_of instances) (table_of pushed)
    pushed_found =
        let same : length (paths_of instances) ≡ length instances = paths_of-length instances in
        let r = ins (length instances) (omega arith) pulled pulled_ready in
        let step : IsNext library at (paths_of instances) pulled pushed = r.0 in
        let ready : AreReady pushed = ready_on pulled pushed pulled_ready step in (
          step.nets,
          table_found library instances are driven (table_of pushed) ready.own ready.outputs at step.sound (subst (HasInputs library (paths_of instances) (table_of pushed)) (sym same) r.1),
        )

    pub all_nets : AreAllNets library instances pushed
    all_nets = record {
      nets = pushed_found.0;
      table = λ m e. subst (λ x. AreNetsAt library (net_places library x (paths_of instances)) (paths_of instances) (table_of pushed)) (same_Some main m (sym first ∙ e)) pushed_found.1;
    }

-- the first ports are those of the first model
ports_first : (models : List ModelValue) (main : ModelValue) (p : Ports) → slice_get models 0 ≡ Some main → p ≡ get_or (map ports_value models) 0 p → p ≡ ports_value main
ports_first [] main p e f = absurd (none-some main e)
ports_first (m ∷ models) main p e f = f ∙ ap ports_value (same_Some m main e)

module _ (library : LibraryValue) (instances : List Instance) (models : List ModelValue) (main : ModelValue) (ports : List Ports) (p : Ports) (empty : NetsValue) (formed : IsWellFormed library) (are : AreInstances library instances)
    (ports_are : ports ≡ map ports_value library.models) (start : AreEmptyNets library (paths_of instances) empty) (models_are : models ≡ library.models) (main_is : main ≡ get_or models 0 main) (p_is : p ≡ get_or ports 0 p) where
  main_at : model_at library [] ≡ Some main
  main_at = subst (λ ms. slice_get ms 0 ≡ Some main) models_are (slice_get_read models (length models) 0 main refl (omega (arith, ap length models_are, formed.some)) main_is)

  inputs_are : p.inputs ≡ inputs_of main
  inputs_are = ap (λ (x : Ports). x.inputs) (ports_first library.models main p main_at (p_is ∙ ap (λ ps. get_or ps 0 p) ports_are))

  -- the main model's inputs are few
  pub inputs_fit : IsLight library → length p.inputs < 4294967296
  inputs_fit light = omega (arith, few_inputs library light main main_at, ap length inputs_are)

  -- and after the steps all nets are known
  pub filled : IsDriven library → (covers latches : List Gate) → AreGatesAt (paths_of instances) covers (places_at library is_cover (paths_of instances)) → AreGatesAt (paths_of instances) latches (places_at library is_latch (paths_of instances))
      → (lines : List (List SubcktValue)) → lines ≡ map (λ (m : ModelValue). subckts_of m.commands) models → (filled_covers latched entered linked_out pushed : NetsValue) → filled_covers ≡ with_covers library instances empty 0 covers
      → latched ≡ with_latches library instances filled_covers 0 latches → entered ≡ with_inputs p.inputs (with_inputs p.inputs latched main.inputs) main.clocks
      → ((l : LibraryValue) → AreLinesOf l lines ports → linked_out ≡ links_out l instances entered (length instances)) → ((l : LibraryValue) → AreLinesOf l lines ports → pushed ≡ links_in l instances linked_out (length instances)) → AreAllNets library instances pushed
  filled driven covers latches covers_at latches_at lines lines_are filled_covers latched entered linked_out pushed a b d e f =
      let given : AreLinesOf library lines ports = record { lines_are = lines_are ∙ ap (map (λ (m : ModelValue). subckts_of m.commands)) models_are; ports_are = ports_are } in
      let inputs : entered ≡ with_inputs (inputs_of main) (with_inputs (inputs_of main) latched main.inputs) main.clocks = d ∙ ap (λ ns. with_inputs ns (with_inputs ns latched main.inputs) main.clocks) inputs_are in
      let same : latched ≡ with_latches library instances (with_covers library instances empty 0 covers) 0 latches = b ∙ ap (λ n. with_latches library instances n 0 latches) a in
      let ends : pushed ≡ links_in library instances (links_out library instances (with_inputs (inputs_of main) (with_inputs (inputs_of main) (with_latches library instances (with_covers library instances empty 0 covers) 0 latches) main.inputs) main.clocks) (length instances)) (length instances) =
      f library given ∙ ap (λ n. links_in library instances n (length instances)) (e library given ∙ ap (λ n. links_out library instances n (length instances)) (inputs ∙ ap (λ n. with_inputs (inputs_of main) (with_inputs (inputs_of main) n main.inputs) main.clocks) same)) in
      subst (AreAllNets library instances) (sym ends) (all_nets library main instances are driven main_at covers latches empty covers_at latches_at start)
