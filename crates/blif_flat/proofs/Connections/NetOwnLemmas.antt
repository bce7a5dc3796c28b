-- The covers and latches of all instances are put in at their outputs: the table stays right, and their outputs stand in it.
use Rattle.blif_flat.proofs.Common.{◌≡◌, ℕ, zero, suc, ◌+◌, Bool, List, [], ◌∷◌, ◌++◌, Option, Some, None, refl, sym, ap, ◌∙◌, subst, inl, inr, arith, slice_get, IsTrue, option_and_then, apart_once, none-some, same_Some, option_and_then_some, In, In-left, In-right, item_there, true, is_some, or_cases, false≢true, In-get, LibraryValue, Places, place_is, has_in, in_has, in_input, input_in, place_some, Net, Place, Drives, Body, Cover, Latch, Command, ModelValue, Path, body_at, model_at, latch_net, cover_net, is_cover, is_latch, FlatNet, Gate, Instance, latch_output as drives_latch, cover_output as drives_cover, places_at, paths_of, AreInstances, IsNumbered, a_latch, a_cover, IsNetOf, IsGateAt, AreGatesAt, body_names, commands_names, all_names, IsSoundTable, net_places, own_number, HasSlots, IsNext, NetsValue, table_of, IsNets, body_in, gate_body, output_of_cover, output_of_latch, with_named, with_gates, place_of as index_place, has_name, is_input, inputs_of, with_place, with_inputs}
use Rattle.netlist.specs.declared.flat.FlatNet.TheVariants.{Latch as LatchNumber, Cover as CoverNumber, Input as InputNumber}
use Rattle.blif_flat.proofs.Connections.NetCopyLemmas.{copied-nets, copied-kept, copied-known, copied-slots, copied-sound, next_same, next_on}
use Rattle.blif_flat.proofs.Connections.NetLemmas.{gate_place_at, input_number}
use Rattle.blif_flat.proofs.Hierarchy.GateLemmas.{gate_place, gate_body-is}
use Rattle.blif_flat.proofs.Hierarchy.OrderLemmas.{instances_apart, order_first}
use Rattle.netlist.proofs.PlaceLemmas.{place_of, command_of}

-- slots stay
pub slots_on : (library : LibraryValue) (at : Places) (paths : List Path) (n next : NetsValue) → HasSlots library paths n → IsNext library at paths n next → HasSlots library paths next
slots_on library at paths n next slots step = record { each = λ i path m name e f h g. slots.each i path m name e f h (sym (step.slots i name) ∙ g) }

-- the names of a command are among those of its model
pub command_named : (cs : List Command) (i : ℕ) (c : Command) (name : List ℕ) → slice_get cs i ≡ Some c → In (body_names c.body) name → In (commands_names cs) name
command_named [] i c name e h = absurd (none-some c e)
command_named (d ∷ cs) zero c name e h = In-left (body_names d.body) (commands_names cs) name (subst (λ (x : Command). In (body_names x.body) name) (sym (same_Some d c e)) h)
command_named (d ∷ cs) (suc i) c name e h = In-right (body_names d.body) (commands_names cs) name (command_named cs i c name e h)

pub commands_within : (m : ModelValue) (name : List ℕ) → In (commands_names m.commands) name → In (all_names m) name
commands_within m name i =
    In-right m.inputs (m.outputs ++ (m.clocks ++ commands_names m.commands)) name (In-right m.outputs (m.clocks ++ commands_names m.commands) name (In-right m.clocks (commands_names m.commands) name i))

-- a name of an instance that has a net
pub record IsOwn (library : LibraryValue) (at : Places) (paths : List Path) (row : ℕ) (name : List ℕ) (net : FlatNet) : Type 0 where
  pub path : Path
  pub here : slice_get paths row ≡ Some path
  pub model : ModelValue
  pub there : model_at library path ≡ Some model
  pub named : In (all_names model) name
  pub right : IsNetOf library at path name net

module _ (library : LibraryValue) (at : Places) (paths : List Path) where
  -- a name that is put in
  pub named_next : (n : NetsValue) → IsNets n → IsSoundTable library at paths (table_of n) → (row : ℕ) (o : Option (List ℕ)) (net : FlatNet) → ((name : List ℕ) → o ≡ Some name → IsOwn library at paths row name net)
      → IsNext library at paths n (with_named n row o net)
  named_next n is sound row None net own = next_same library at paths n is sound
  named_next n is sound row (Some name) net own =
      let w = own name refl in
      record {
        nets = copied-nets n row name (Some net) is;
        sound = copied-sound library at paths n is row w.path name (Some net) sound w.here (λ number e. subst (IsNetOf library at w.path name) (same_Some net number e) w.right);
        kept = copied-kept n is row name (Some net);
        slots = λ j other. copied-slots n row name (Some net) j other;
      }

  pub named_known : (n : NetsValue) → IsNets n → HasSlots library paths n → (row : ℕ) (o : Option (List ℕ)) (name : List ℕ) (net : FlatNet) → o ≡ Some name → IsOwn library at paths row name net
      → table_of (with_named n row o net) row name ≡ None → ⊥
  named_known n is slots row None name net e own g = absurd (none-some name e)
  named_known n is slots row (Some other) name net e own g =
      let same : other ≡ name = same_Some other name e in
      copied-known n is row name (Some net) (λ f. none-some net (sym f)) (slots.each row own.path own.model name own.here own.there own.named)
      (subst (λ x. table_of (with_named n row (Some x) net) row name ≡ None) same g)

  module _ (instances : List Instance) (output : Body → Option (List ℕ)) (number : ℕ → FlatNet) where
    -- the outputs of gates from a number on have their nets
    abbrev pub AreOwn : ℕ → List Gate → Type 0
    AreOwn k gs = (i : ℕ) (g : Gate) (name : List ℕ) → slice_get gs i ≡ Some g → option_and_then output (gate_body library instances g) ≡ Some name → IsOwn library at paths g.row name (number (k + i))

    own_first : (k : ℕ) (g : Gate) (gs : List Gate) → AreOwn k (g ∷ gs) → (name : List ℕ) → option_and_then output (gate_body library instances g) ≡ Some name → IsOwn library at paths g.row name (number k)
    own_first k g gs own name e = let z : k + 0 ≡ k = omega arith in subst (λ j. IsOwn library at paths g.row name (number j)) z (own 0 g name refl e)

    own_rest : (k : ℕ) (g : Gate) (gs : List Gate) → AreOwn k (g ∷ gs) → AreOwn (suc k) gs
    own_rest k g gs own i h name e f = let z : k + suc i ≡ suc k + i = omega arith in subst (λ j. IsOwn library at paths h.row name (number j)) z (own (suc i) h name e f)

    first_next : (k : ℕ) (g : Gate) (gs : List Gate) (n : NetsValue) → IsNets n → IsSoundTable library at paths (table_of n) → AreOwn k (g ∷ gs)
        → IsNext library at paths n (with_named n g.row (option_and_then output (gate_body library instances g)) (number k))
    first_next k g gs n is sound own = named_next n is sound g.row (option_and_then output (gate_body library instances g)) (number k) (own_first k g gs own)

    pub gates_next : (gs : List Gate) (k : ℕ) (n : NetsValue) → IsNets n → IsSoundTable library at paths (table_of n) → AreOwn k gs → IsNext library at paths n (with_gates output number library instances n k gs)
    gates_next [] k n is sound own = next_same library at paths n is sound
    gates_next (g ∷ gs) k n is sound own =
        let middle : NetsValue = with_named n g.row (option_and_then output (gate_body library instances g)) (number k) in
        let one : IsNext library at paths n middle = first_next k g gs n is sound own in
        next_on library at paths n middle (with_gates output number library instances middle (suc k) gs) one (gates_next gs (suc k) middle one.nets one.sound (own_rest k g gs own))

    pub gates_known : (gs : List Gate) (k : ℕ) (n : NetsValue) → IsNets n → IsSoundTable library at paths (table_of n) → HasSlots library paths n → AreOwn k gs
        → (i : ℕ) (g : Gate) (name : List ℕ) → slice_get gs i ≡ Some g → option_and_then output (gate_body library instances g) ≡ Some name → table_of (with_gates output number library instances n k gs) g.row name ≡ None → ⊥
    gates_known [] k n is sound slots own i g name e f = absurd (none-some g e)
    gates_known (h ∷ gs) k n is sound slots own zero g name e f =
        let middle : NetsValue = with_named n h.row (option_and_then output (gate_body library instances h)) (number k) in
        let one : IsNext library at paths n middle = first_next k h gs n is sound own in
        let rest : IsNext library at paths middle (with_gates output number library instances middle (suc k) gs) = gates_next gs (suc k) middle one.nets one.sound (own_rest k h gs own) in
        let same : g ≡ h = sym (same_Some h g e) in
        let out : option_and_then output (gate_body library instances h) ≡ Some name = subst (λ (x : Gate). option_and_then output (gate_body library instances x) ≡ Some name) same f in
        let known : table_of middle h.row name ≡ None → ⊥ = named_known n is slots h.row (option_and_then output (gate_body library instances h)) name (number k) out (own_first k h gs own name out) in
        subst (λ (x : Gate). table_of (with_gates output number library instances middle (suc k) gs) x.row name ≡ None → ⊥) (sym same) (rest.kept.each h.row name known)
    gates_known (h ∷ gs) k n is sound slots own (suc i) g name e f =
        let middle : NetsValue = with_named n h.row (option_and_then output (gate_body library instances h)) (number k) in
        let one : IsNext library at paths n middle = first_next k h gs n is sound own in
        gates_known gs (suc k) middle one.nets one.sound (slots_on library at paths n middle slots one) (own_rest k h gs own) i g name e f

module _ (library : LibraryValue) (main : ModelValue) (instances : List Instance) (are : AreInstances library instances) where
  -- the command of a gate
  pub record IsCommandOf (g : Gate) (path : Path) (b : Body) : Type 0 where
    pub model : ModelValue
    pub there : model_at library path ≡ Some model
    pub is : body_at model g.command ≡ Some b

  gate_command : (g : Gate) (path : Path) (b : Body) → slice_get (paths_of instances) g.row ≡ Some path → gate_body library instances g ≡ Some b → IsCommandOf g path b
  gate_command g path b here e =
      let place : gate_body library instances g ≡ body_in g.command (model_at library path) = gate_place library instances are g (record { path = path; command = g.command }) (record { row = here; command = refl }) in
      option_and_then_some (λ (m : ModelValue). body_at m g.command) (model_at library path) b (sym place ∙ e) (λ m f h. record { model = m; there = f; is = h })

  -- the outputs of the gates of a kind have the gates' numbers
  gates_own : (kind : Body → Bool) (output : Body → Option (List ℕ)) (net : Place → Net) (number : ℕ → FlatNet) (gates : List Gate) → AreGatesAt (paths_of instances) gates (places_at library kind (paths_of instances))
      → ((i : ℕ) (p : Place) → slice_get (places_at library kind (paths_of instances)) i ≡ Some p → IsNumbered (net_places library main (paths_of instances)) (net p) (number i))
      → ((b : Body) (p : Place) (m : ModelValue) (name : List ℕ) → output b ≡ Some name → model_at library p.path ≡ Some m → body_at m p.command ≡ Some b → In (body_names b) name × Drives library p.path name (net p))
      → AreOwn library (net_places library main (paths_of instances)) (paths_of instances) instances output number 0 gates
  gates_own kind output net number gates stand numbered drives i g name e f =
      let p = item_there gates (places_at library kind (paths_of instances)) i g stand.count e in
      let at : IsGateAt (paths_of instances) g p.0 = stand.each i g p.0 e p.1 in
      option_and_then_some output (gate_body library instances g) name f (λ b h t.
      let k : IsCommandOf g (p.0).path b = gate_command g (p.0).path b at.row h in
      let is : body_at k.model (p.0).command ≡ Some b = ap (body_at k.model) (sym at.command) ∙ k.is in
      let d = drives b p.0 k.model name t k.there is in
      record {
        path = (p.0).path;
        here = at.row;
        model = k.model;
        there = k.there;
        named =
            let c = command_of (slice_get (k.model).commands (p.0).command) b is in
            commands_within k.model name (command_named (k.model).commands (p.0).command c.0 name c.1 (subst (λ x. In (body_names x) name) (sym c.2) d.0));
        right = record { net = net p.0; drives = d.1; numbered = subst (λ j. IsNumbered (net_places library main (paths_of instances)) (net p.0) (number j)) (omega arith) (numbered i p.0 p.1) };
      })

  cover_drives : (b : Body) (p : Place) (m : ModelValue) (name : List ℕ) → output_of_cover b ≡ Some name → model_at library p.path ≡ Some m → body_at m p.command ≡ Some b → In (body_names b) name × Drives library p.path name (cover_net p.path p.command)
  cover_drives (Cover c) p m name e at is =
      let q : name ≡ c.output = sym (same_Some c.output name e) in
      (In-right c.inputs (c.output ∷ []) name (inl q), drives_cover p.command c (record { model = m; at = at; is = is }) q refl)
  cover_drives b p m name e at is = absurd (none-some name e)

  latch_drives : (b : Body) (p : Place) (m : ModelValue) (name : List ℕ) → output_of_latch b ≡ Some name → model_at library p.path ≡ Some m → body_at m p.command ≡ Some b → In (body_names b) name × Drives library p.path name (latch_net p.path p.command)
  latch_drives (Latch l) p m name e at is =
      let q : name ≡ l.output = sym (same_Some l.output name e) in
      (inr (inl q), drives_latch p.command l (record { model = m; at = at; is = is }) q refl)
  latch_drives b p m name e at is = absurd (none-some name e)

  pub covers_own : (covers : List Gate) → AreGatesAt (paths_of instances) covers (places_at library is_cover (paths_of instances))
      → AreOwn library (net_places library main (paths_of instances)) (paths_of instances) instances output_of_cover (λ j. CoverNumber j) 0 covers
  covers_own covers stand =
      gates_own is_cover output_of_cover (λ p. cover_net p.path p.command) (λ j. CoverNumber j) covers stand (λ i p e. a_cover p i refl e refl) cover_drives

  pub latches_own : (latches : List Gate) → AreGatesAt (paths_of instances) latches (places_at library is_latch (paths_of instances))
      → AreOwn library (net_places library main (paths_of instances)) (paths_of instances) instances output_of_latch (λ j. LatchNumber j) 0 latches
  latches_own latches stand =
      gates_own is_latch output_of_latch (λ p. latch_net p.path p.command) (λ j. LatchNumber j) latches stand (λ i p e. a_latch p i refl e refl) latch_drives

  -- each command of a kind is that of a gate
  pub record IsGateOf (gates : List Gate) (i c : ℕ) (b : Body) : Type 0 where
    pub number : ℕ
    pub gate : Gate
    pub at : slice_get gates number ≡ Some gate
    pub row : gate.row ≡ i
    pub is : gate_body library instances gate ≡ Some b

  pub gate_of : (kind : Body → Bool) (gates : List Gate) → AreGatesAt (paths_of instances) gates (places_at library kind (paths_of instances)) → (i : ℕ) (path : Path) (m : ModelValue) (c : ℕ) (b : Body)
      → slice_get (paths_of instances) i ≡ Some path → model_at library path ≡ Some m → body_at m c ≡ Some b → IsTrue (kind b) → IsGateOf gates i c b
  gate_of kind gates stand i path m c b here there is t =
      let command = command_of (slice_get m.commands c) b is in
      let place = gate_place_at library kind (paths_of instances) i path m c command.0 here there command.1 (ap kind command.2 ∙ t) in
      let g = item_there (places_at library kind (paths_of instances)) gates _ (place_of path c) (sym stand.count) place in
      let stands : IsGateAt (paths_of instances) g.0 (place_of path c) = stand.each _ g.0 (place_of path c) g.1 place in
      record {
        number = _;
        gate = g.0;
        at = g.1;
        row = apart_once (paths_of instances) (g.0).row i path (instances_apart library are.order) stands.row here;
        is = gate_body-is library instances are g.0 (place_of path c) stands m b there is;
      }

-- The inputs of the main model are put in by their places: they are few, the table stays right, and they stand in it.

-- the inputs of a model are among its names
pub input_named : (m : ModelValue) (name : List ℕ) → IsTrue (is_input m name) → In (all_names m) name
input_named m name t = elim (or_cases (has_name m.inputs name) (has_name m.clocks name) t) [
  | inl y ↦ In-left m.inputs (m.outputs ++ (m.clocks ++ commands_names m.commands)) name (has_in m.inputs name y)
  | inr y ↦
      In-right m.inputs (m.outputs ++ (m.clocks ++ commands_names m.commands)) name (In-right m.outputs (m.clocks ++ commands_names m.commands) name
      (In-left m.clocks (commands_names m.commands) name (has_in m.clocks name y)))
]

module _ (library : LibraryValue) (main : ModelValue) (instances : List Instance) (are : AreInstances library instances) (first : model_at library [] ≡ Some main) where
  abbrev at : Places
  at = net_places library main (paths_of instances)

  -- an input has its number
  input_own : (name : List ℕ) (j : ℕ) → index_place (inputs_of main) name ≡ Some j → IsOwn library at (paths_of instances) 0 name (InputNumber j)
  input_own name j e =
      let place : slice_get (inputs_of main) j ≡ Some name = place_is (inputs_of main) name j e in
      let is : IsTrue (is_input main name) = in_input main name (In-get (inputs_of main) j name place) in
      record { path = []; here = order_first library are.order; model = main; there = first; named = input_named main name is; right = input_number library main (paths_of instances) j name first is place }

  place_next : (n : NetsValue) → IsNets n → IsSoundTable library at (paths_of instances) (table_of n) → (name : List ℕ) (o : Option ℕ) → index_place (inputs_of main) name ≡ o → IsNext library at (paths_of instances) n (with_place n name o)
  place_next n is sound name None e = next_same library at (paths_of instances) n is sound
  place_next n is sound name (Some j) e =
      named_next library at (paths_of instances) n is sound 0 (Some name) (InputNumber j) (λ other f. subst (λ x. IsOwn library at (paths_of instances) 0 x (InputNumber j)) (same_Some name other f) (input_own name j e))

  place_known : (n : NetsValue) → IsNets n → HasSlots library (paths_of instances) n → (name : List ℕ) (o : Option ℕ) → index_place (inputs_of main) name ≡ o → IsTrue (is_input main name) → table_of (with_place n name o) 0 name ≡ None → ⊥
  place_known n is slots name None e t g =
      false≢true (sym (ap is_some e) ∙ (place_some (inputs_of main) name ∙ in_has (inputs_of main) name (input_in main name t)))
  place_known n is slots name (Some j) e t g = named_known library at (paths_of instances) n is slots 0 (Some name) name (InputNumber j) refl (input_own name j e) g

  pub main_next : (names : List (List ℕ)) (n : NetsValue) → IsNets n → IsSoundTable library at (paths_of instances) (table_of n) → IsNext library at (paths_of instances) n (with_inputs (inputs_of main) n names)
  main_next [] n is sound = next_same library at (paths_of instances) n is sound
  main_next (name ∷ names) n is sound =
      let middle : NetsValue = with_place n name (index_place (inputs_of main) name) in
      let one : IsNext library at (paths_of instances) n middle = place_next n is sound name (index_place (inputs_of main) name) refl in
      next_on library at (paths_of instances) n middle (with_inputs (inputs_of main) middle names) one (main_next names middle one.nets one.sound)

  pub main_known : (names : List (List ℕ)) (n : NetsValue) → IsNets n → IsSoundTable library at (paths_of instances) (table_of n) → HasSlots library (paths_of instances) n
      → (name : List ℕ) → In names name → IsTrue (is_input main name) → table_of (with_inputs (inputs_of main) n names) 0 name ≡ None → ⊥
  main_known [] n is sound slots name i t g = absurd i
  main_known (x ∷ names) n is sound slots name (inl e) t g =
      let middle : NetsValue = with_place n x (index_place (inputs_of main) x) in
      let one : IsNext library at (paths_of instances) n middle = place_next n is sound x (index_place (inputs_of main) x) refl in
      let known : table_of middle 0 x ≡ None → ⊥ = place_known n is slots x (index_place (inputs_of main) x) refl (subst (λ y. IsTrue (is_input main y)) e t) in
      (main_next names middle one.nets one.sound).kept.each 0 name (subst (λ y. table_of middle 0 y ≡ None → ⊥) (sym e) known) g
  main_known (x ∷ names) n is sound slots name (inr i) t g =
      let middle : NetsValue = with_place n x (index_place (inputs_of main) x) in
      let one : IsNext library at (paths_of instances) n middle = place_next n is sound x (index_place (inputs_of main) x) refl in
      main_known names middle one.nets one.sound (slots_on library at (paths_of instances) n middle slots one) name i t g
