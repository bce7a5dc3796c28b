-- The drivers and the reads of an instance are those of its model's commands, and its ports.
use Rattle.blif_flat.proofs.Common.{◌≡◌, ℕ, true, not, List, [], ◌∷◌, Option, Some, None, refl, sym, ap, ap₂, ◌∙◌, subst, inl, inr, ◌⊎◌, slice_get, cases_Bool, and_from, and_parts, not_from_false, none-some, same_Some, In, In-left, In-right, In-append, In-get, In-map, from_map, map, filter, in_filter, In-filter, place_in, Body, Cover, Latch, Subckt, Command, Connection, ModelValue, Path, body_at, with_subckt, subckts_of, model_named, model_at, has_name, is_input, is_output, inputs_of, LatchAt, Driver, by_input, IsDriver, input, latch, cover, output, IsRead, cover_input, latch_input, latch_control, input_actual, model_output, input_actuals, read_pairs, control_names, reads, all_drives, driven_names, SubcktValue, LibraryValue, command_of, body_of, has_in, in_has, input_in, in_input, arith, rules}
use Rattle.blif_flat.proofs.Models.TagLemmas.{Tag, tag, tags, tag_names, Source, from_cover, from_latch, from_subckt, tag_in, tag_source, AreNew, new_apart, new_once, IsClean}

-- the command of a subcircuit
pub record CommandOf (commands : List Command) (s : SubcktValue) : Type 0 where
  pub command : Command
  pub member : In commands command
  pub is : command.body ≡ Subckt s

command_with : (d : Command) (b : Body) (cs : List Command) (s : SubcktValue) → d.body ≡ b → (In (subckts_of cs) s → CommandOf cs s) → In (with_subckt b (subckts_of cs)) s → CommandOf (d ∷ cs) s
command_with d (Subckt t) cs s e h (inl q) = record { command = d; member = inl refl; is = e ∙ ap Subckt (sym q) }
command_with d (Subckt t) cs s e h (inr i) = let r = h i in record { command = r.command; member = inr r.member; is = r.is }
command_with d b cs s e h i = let r = h i in record { command = r.command; member = inr r.member; is = r.is }

pub subckt_command : (commands : List Command) (s : SubcktValue) → In (subckts_of commands) s → CommandOf commands s
subckt_command [] s i = absurd i
subckt_command (d ∷ cs) s i = command_with d d.body cs s refl (subckt_command cs s) i

pub subckt_more : (b : Body) (subckts : List SubcktValue) (s : SubcktValue) → In subckts s → In (with_subckt b subckts) s
subckt_more (Subckt t) subckts s i = inr i
subckt_more b subckts s i = i

pub subckt_in : (commands : List Command) (d : Command) (s : SubcktValue) → In commands d → d.body ≡ Subckt s → In (subckts_of commands) s
subckt_in [] d s i e = absurd i
subckt_in (c ∷ cs) d s (inl q) e = subst (λ b. In (with_subckt b (subckts_of cs)) s) (sym e ∙ ap (λ (x : Command). x.body) q) (inl refl)
subckt_in (c ∷ cs) d s (inr i) e = subckt_more c.body (subckts_of cs) s (subckt_in cs d s i e)

-- the actuals of input connections
actuals_kept : (child : ModelValue) (pairs : List Connection) → input_actuals child pairs ≡ map (λ (p : Connection). p.actual) (filter (λ (p : Connection). is_input child p.formal) pairs)
actuals_kept child [] = refl
actuals_kept child (p ∷ pairs) = search (rules, cases_Bool, is_input, actuals_kept child pairs)

actual_in : (child : ModelValue) (pairs : List Connection) (pair : Connection) → In pairs pair → is_input child pair.formal ≡ true → In (input_actuals child pairs) pair.actual
actual_in child pairs pair i t = subst (λ ns. In ns pair.actual) (sym (actuals_kept child pairs))
    (In-map (λ (p : Connection). p.actual) (filter (λ (p : Connection). is_input child p.formal) pairs) pair (in_filter (λ (p : Connection). is_input child p.formal) pairs pair i t))

record ActualOf (child : ModelValue) (pairs : List Connection) (name : List ℕ) : Type 0 where
  pair : Connection
  member : In pairs pair
  on : is_input child pair.formal ≡ true
  is : name ≡ pair.actual

actual_of : (child : ModelValue) (pairs : List Connection) (name : List ℕ) → In (input_actuals child pairs) name → ActualOf child pairs name
actual_of child pairs name i =
    let r = from_map (λ (p : Connection). p.actual) (filter (λ (p : Connection). is_input child p.formal) pairs) name (subst (λ ns. In ns name) (actuals_kept child pairs) i) in
    let m = In-filter (λ (p : Connection). is_input child p.formal) pairs r.0 r.1 in
    record { pair = r.0; member = m.0; on = m.1; is = r.2 }

control_in : (o : Option (List ℕ)) (name : List ℕ) → o ≡ Some name → In (control_names o) name
control_in None name e = absurd (none-some name e)
control_in (Some n) name e = inl (sym (same_Some n name e))

in_control : (o : Option (List ℕ)) (name : List ℕ) → In (control_names o) name → o ≡ Some name
in_control None name i = absurd i
in_control (Some n) name i = elim i [ inl e ↦ ap Some (sym e) | inr o ↦ absurd o ]

module _ (library : LibraryValue) (path : Path) (m : ModelValue) (at : model_at library path ≡ Some m) where
  abbrev pub own_tags : List Tag
  own_tags = tags library (λ i. i) (λ k. k) m.commands

  -- a driver is the model's input, or that of a command
  pub driver_tag : (name : List ℕ) (driver : Driver) → IsDriver library path name driver → ((is_input m name ≡ true) × (driver ≡ by_input)) ⊎ In own_tags (tag driver name)
  driver_tag name driver (input a i q) = inl (subst (λ (x : ModelValue). is_input x name ≡ true) (same_Some a.model m (sym a.at ∙ at)) i, q)
  driver_tag name driver (latch i l a p q) = inr (tag_in library (λ j. j) (λ k. k) m.commands (tag driver name)
      (from_latch i l (subst (λ x. body_at x i ≡ Some (Latch l)) (same_Some a.model m (sym a.at ∙ at)) a.is) (ap₂ tag q p)))
  driver_tag name driver (cover i c a p q) = inr (tag_in library (λ j. j) (λ k. k) m.commands (tag driver name)
      (from_cover i c (subst (λ x. body_at x i ≡ Some (Cover c)) (same_Some a.model m (sym a.at ∙ at)) a.is) (ap₂ tag q p)))
  driver_tag name driver (output k pair a out p q) = inr (tag_in library (λ j. j) (λ n. n) m.commands (tag driver name)
      (from_subckt k a.subckt a.child pair (subst (λ x. slice_get (subckts_of x.commands) k ≡ Some a.subckt) (same_Some a.model m (sym a.at ∙ at)) a.is) a.places a.member out (ap₂ tag q p)))

  source_driver : (t : Tag) → Source library (λ i. i) (λ k. k) m.commands t → IsDriver library path t.name t.driver
  source_driver t (from_cover i c e q) = cover i c (record { model = m; at = at; is = e }) (ap (λ (y : Tag). y.name) q) (ap (λ (y : Tag). y.driver) q)
  source_driver t (from_latch i l e q) = latch i l (record { model = m; at = at; is = e }) (ap (λ (y : Tag). y.name) q) (ap (λ (y : Tag). y.driver) q)
  source_driver t (from_subckt k s child pair e n i out q) = output k pair (record { model = m; subckt = s; child = child; at = at; is = e; member = i; places = n }) out
      (ap (λ (y : Tag). y.name) q) (ap (λ (y : Tag). y.driver) q)

  pub tag_driver : (t : Tag) → In own_tags t → IsDriver library path t.name t.driver
  tag_driver t i = source_driver t (tag_source library (λ j. j) (λ k. k) m.commands t i)

  tag_drives : (t : Tag) → In own_tags t → In (all_drives library m.commands) t.name
  tag_drives t i = subst (λ ns. In ns t.name) (tag_names library (λ j. j) (λ k. k) m.commands) (In-map (λ (y : Tag). y.name) own_tags t i)

  -- the driven names are those with a driver
  pub name_driver : (name : List ℕ) → In (driven_names library m) name → (driver : Driver) × IsDriver library path name driver
  name_driver name i = elim (In-append (inputs_of m) (all_drives library m.commands) name i) [
    | inl j ↦ (by_input, input (record { model = m; at = at }) (in_input m name j) refl)
    | inr j ↦ (let r = from_map (λ (y : Tag). y.name) own_tags name (subst (λ ns. In ns name) (sym (tag_names library (λ x. x) (λ k. k) m.commands)) j) in
        ((r.0).driver, subst (λ n. IsDriver library path n (r.0).driver) (sym r.2) (tag_driver r.0 r.1)))
  ]

  pub driver_name : (name : List ℕ) (driver : Driver) → IsDriver library path name driver → In (driven_names library m) name
  driver_name name driver d = elim (driver_tag name driver d) [
    | inl p ↦ In-left (inputs_of m) (all_drives library m.commands) name (input_in m name p.0)
    | inr i ↦ In-right (inputs_of m) (all_drives library m.commands) name (tag_drives (tag driver name) i)
  ]

  -- no F5: one driver
  pub clean_once : IsClean library m → (name : List ℕ) (driver other : Driver) → IsDriver library path name driver → IsDriver library path name other → driver ≡ other
  clean_once c name driver other d o = elim (driver_tag name driver d) [
    | inl p ↦ (elim (driver_tag name other o) [
      | inl q ↦ p.1 ∙ sym q.1
      | inr j ↦ absurd (new_apart (inputs_of m) (all_drives library m.commands) name c.new (tag_drives (tag other name) j) (input_in m name p.0))
    ])
    | inr i ↦ (elim (driver_tag name other o) [
      | inl q ↦ absurd (new_apart (inputs_of m) (all_drives library m.commands) name c.new (tag_drives (tag driver name) i) (input_in m name q.0))
      | inr j ↦ ap (λ (y : Tag). y.driver) (new_once (inputs_of m) own_tags (tag driver name) (tag other name) (subst (AreNew (inputs_of m)) (sym (tag_names library (λ x. x) (λ k. k) m.commands)) c.new) i j refl)
    ])
  ]

  body_read : IsClean library m → (i : ℕ) (b : Body) → body_at m i ≡ Some b → (name : List ℕ) → In (reads library b) name → In (driven_names library m) name
  body_read c i b e name j =
      let r = command_of (slice_get m.commands i) b e in
      c.commands r.0 (In-get m.commands i r.0 r.1) name (subst (λ x. In (reads library x) name) (sym r.2) j)

  read_name : IsClean library m → (name : List ℕ) → IsRead library path name → In (driven_names library m) name
  read_name f name (cover_input i c a j) = body_read f i (Cover c) (subst (λ x. body_at x i ≡ Some (Cover c)) (same_Some a.model m (sym a.at ∙ at)) a.is) name j
  read_name f name (latch_input i l a p) = body_read f i (Latch l) (subst (λ x. body_at x i ≡ Some (Latch l)) (same_Some a.model m (sym a.at ∙ at)) a.is) name (inl p)
  read_name f name (latch_control i l a p) = body_read f i (Latch l) (subst (λ x. body_at x i ≡ Some (Latch l)) (same_Some a.model m (sym a.at ∙ at)) a.is) name (inr (control_in l.control name p))
  read_name f name (input_actual k pair a t p) =
      let c = subckt_command m.commands a.subckt (In-get (subckts_of m.commands) k a.subckt (subst (λ x. slice_get (subckts_of x.commands) k ≡ Some a.subckt) (same_Some a.model m (sym a.at ∙ at)) a.is)) in
      let here : In (read_pairs (model_named library.models (a.subckt).model) (a.subckt).pairs) name = grind (arith, read_pairs, input_actuals, actual_in) in
      f.commands c.command c.member name (subst (λ b. In (reads library b) name) (sym c.is) here)
  read_name f name (model_output x e t) = grind (arith, has_in, and_parts, is_input, has_name, is_output, same_Some)

  -- no F6: a driver of each name that is read
  pub clean_driven : IsClean library m → (name : List ℕ) → IsRead library path name → (driver : Driver) × IsDriver library path name driver
  clean_driven c name r = name_driver name (read_name c name r)

  -- what a command reads, and an output, is read
  pair_read : (s : SubcktValue) (name : List ℕ) (o : Option ModelValue) → model_named library.models s.model ≡ o → In (subckts_of m.commands) s → In (read_pairs o s.pairs) name → IsRead library path name
  pair_read s name None n i j = absurd j
  pair_read s name (Some child) n i j =
      let r = actual_of child s.pairs name j in
      let k = place_in (subckts_of m.commands) s i in
      input_actual k.0 r.pair (record { model = m; subckt = s; child = child; at = at; is = k.1; member = r.member; places = n }) r.on r.is

  body_reads : (d : Command) (b : Body) (name : List ℕ) → In m.commands d → d.body ≡ b → In (reads library b) name → IsRead library path name
  body_reads d (Cover c) name i e j = let k = place_in m.commands d i in cover_input k.0 c (record { model = m; at = at; is = body_of m k.0 d k.1 ∙ ap Some e }) j
  body_reads d (Latch l) name i e j =
      let k = place_in m.commands d i in
      let a : LatchAt library path k.0 l = record { model = m; at = at; is = body_of m k.0 d k.1 ∙ ap Some e } in
      elim j [ inl p ↦ latch_input k.0 l a p | inr p ↦ latch_control k.0 l a (in_control l.control name p) ]
  body_reads d (Subckt s) name i e j = pair_read s name (model_named library.models s.model) refl (subckt_in m.commands d s i e) j

  pub command_reads : (d : Command) (name : List ℕ) → In m.commands d → In (reads library d.body) name → IsRead library path name
  command_reads d name i j = body_reads d d.body name i refl j

  pub output_driven : ((name : List ℕ) → IsRead library path name → (driver : Driver) × IsDriver library path name driver) → (name : List ℕ) → In m.outputs name → In (driven_names library m) name
  output_driven h name i = elim (cases_Bool (is_input m name)) [
    | inl t ↦ In-left (inputs_of m) (all_drives library m.commands) name (input_in m name t)
    | inr f ↦ (let d = h name (model_output m at (and_from (not (is_input m name)) (has_name m.outputs name) (not_from_false (is_input m name) f) (in_has m.outputs name i))) in driver_name name d.0 d.1)
  ]
