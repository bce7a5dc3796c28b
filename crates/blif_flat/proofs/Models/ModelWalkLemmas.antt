-- The walk of the models by their numbers is that of the definition, and its order puts each model behind those that it places.
use Rattle.blif_flat.proofs.Common.{◌≡◌, ℕ, ◌<◌, false, List, Vec, Global, [], ◌∷◌, ◌++◌, map, reverse, length, Option, Some, None, refl, sym, ap, ◌∙◌, subst, subst₂, inl, inr, slice_get, option_map, unwrap_or, both_ways, length-map, none-some, same_Some, slice_get_within, slice_get-map, In, In-map, at_within, in_reversed, OrMemory-map, LibraryValue, ways_of, ways_from, successors, AreNodes, ending_of, Visited, stop, reached_only, reverse-append, Node, Stop, Pass, arith, rules}
use Rattle.blif_flat.specs.{leads, WalkValue, OrMemory, place_of, Body, Subckt, Command, ModelValue, has_name, model_named, AreOnce, FlatErr, or_later, SubcktLine, with_line, subckt_lines, line_fault, is_walked, Walked, refused, walked, Walks, refuse, again, inside, onward, WalksMain, refusal_of, IsTold, model_names, IsModelOf, Finds, models_at, IsBehind, AreChildrenFirst, edge_by, line_edge, body_edge, commands_edges, edge_rows, edges_at, with_model_name, names_at, lines_fault, model_lines_fault, path_fault}
use Rattle.depth_first.specs.DepthFirst.{Way, stops, Ending, repeats, halts, nodes_of, WalkOutcome, ends_at, goes_through, Enters, ended, stopped_at, back, again as enters_again, inside as enters_inside, onward as enters_onward}
use Rattle.depth_first.specs.Order.{LeadsInto, IsSettled}
use Rattle.depth_first.specs.declared.edge.Edge.{Edge}
use Rattle.depth_first.specs.declared.edge.End.{End}
use Rattle.depth_first.specs.declared.edge.End.TheVariants.{Loop, Stop as stopped}
use Rattle.blif_flat.proofs.Hierarchy.InstanceLemmas.{subckt_command}
use Rattle.blif_flat.proofs.Models.LineLemmas.{IsPlaced, free_line, no_line_fault}
use Rattle.blif_flat.proofs.Models.ModelPathLemmas.{models_at-push, on_path, off_path, was_walked, not_walked}
use Rattle.blif_flat.proofs.Models.NameSetLemmas.{finds}
use Rattle.blif_flat.proofs.Models.WalkedLemmas.{named_is}
use Rattle.blif_flat.proofs.Models.WeightLemmas.{children_first_push}

-- an edge of a line is no edge that is passed over
no_pass : (o : Option FlatErr) (k : Option ℕ) → edge_by o k ≡ Pass → ⊥
no_pass None None e = cc
no_pass o k e = cc

split_edge : (e : Edge (Unit {0})) (es : List (Edge (Unit {0}))) (w : Way ℕ (Unit {0})) (rest : List (Way ℕ (Unit {0}))) → ways_of (e ∷ es) ≡ w ∷ rest → (e ≡ Pass → ⊥)
    → (ways_of (e ∷ []) ≡ w ∷ []) × (rest ≡ ways_of es)
split_edge (Node n) es w rest q o = let a : leads n ≡ w = cc in (ap (λ x. x ∷ []) a, cc)
split_edge (Stop s) es w rest q o = let a : stops s ≡ w = cc in (ap (λ x. x ∷ []) a, cc)
split_edge Pass es w rest q o = absurd (o refl)

some_way : (e : Edge (Unit {0})) (es : List (Edge (Unit {0}))) → ways_of (e ∷ es) ≡ [] → (e ≡ Pass → ⊥) → ⊥
some_way Pass es q o = o refl
some_way e es q o = cc

-- what the edge of a line says
node_edge : (o : Option FlatErr) (k : Option ℕ) (n : ℕ) → ways_of (edge_by o k ∷ []) ≡ leads n ∷ [] → (o ≡ None) × (k ≡ Some n)
node_edge None (Some j) n e = (refl, cc)
node_edge o k n e = absurd (cc)

stop_edge : (o : Option FlatErr) (k : Option ℕ) (s : Unit {0}) → ways_of (edge_by o k ∷ []) ≡ stops s ∷ [] → (n : ℕ) → o ≡ None → k ≡ Some n → ⊥
stop_edge (Some f) k s e n a b = absurd (none-some f (sym a))
stop_edge None None s e n a b = absurd (none-some n b)
stop_edge None (Some j) s e n a b = cc

edge_into : (o : Option FlatErr) (k : Option ℕ) (ns : List ℕ) → ((w : Way ℕ (Unit {0})) → ways_of (edge_by o k ∷ []) ≡ w ∷ [] → LeadsInto ns w) → (n : ℕ) × ((k ≡ Some n) × In ns n)
edge_into None (Some n) ns h = (n, (refl, h (leads n) refl))
edge_into o k ns h = absurd (h (stops tt) refl)

told : (o : Option FlatErr) → (o ≡ None → ⊥) → (f : FlatErr) × (o ≡ Some f)
told None h = absurd (h refl)
told (Some f) h = (f, refl)

module _ (models : List ModelValue) (names : AreOnce (model_names models)) where
  abbrev library : LibraryValue
  library = record { models = models }

  abbrev ways : ℕ → List (Way ℕ (Unit {0}))
  ways n = ways_from (edges_at (edge_rows models models)) n

  abbrev lines_ways : ModelValue → List Command → List (Way ℕ (Unit {0}))
  lines_ways m cs = ways_of (commands_edges models m cs)

  row_is : (n : ℕ) (m : ModelValue) → slice_get models n ≡ Some m → edges_at (edge_rows models models) n ≡ commands_edges models m m.commands
  row_is n m at = ap (λ o. unwrap_or o []) (slice_get-map (λ (x : ModelValue). commands_edges models x x.commands) models n ∙ ap (option_map (λ (x : ModelValue). commands_edges models x x.commands)) at)

  -- the first line of some commands
  record FirstLine (m : ModelValue) (lines : List SubcktLine) (w : Way ℕ (Unit {0})) (rest : List (Way ℕ (Unit {0}))) : Type 0 where
    line : SubcktLine
    others : List Command
    lines_are : lines ≡ line ∷ subckt_lines others
    way : ways_of (line_edge models m line ∷ []) ≡ w ∷ []
    rest_is : rest ≡ lines_ways m others

  first_body : (m : ModelValue) (n : ℕ) (b : Body) (cs : List Command) (w : Way ℕ (Unit {0})) (rest : List (Way ℕ (Unit {0}))) → ways_of (body_edge models m n b ∷ commands_edges models m cs) ≡ w ∷ rest
      → (lines_ways m cs ≡ w ∷ rest → FirstLine m (subckt_lines cs) w rest) → FirstLine m (with_line n b (subckt_lines cs)) w rest
  first_body m n (Subckt s) cs w rest e h = grind arith
  first_body m n b cs w rest e h = h e

  first_line : (m : ModelValue) (cs : List Command) (w : Way ℕ (Unit {0})) (rest : List (Way ℕ (Unit {0}))) → lines_ways m cs ≡ w ∷ rest → FirstLine m (subckt_lines cs) w rest
  first_line m [] w rest e = absurd (cc)
  first_line m (c ∷ cs) w rest e = first_body m c.line c.body cs w rest e (first_line m cs w rest)

  no_body : (m : ModelValue) (n : ℕ) (b : Body) (cs : List Command) → ways_of (body_edge models m n b ∷ commands_edges models m cs) ≡ [] → (lines_ways m cs ≡ [] → subckt_lines cs ≡ []) → with_line n b (subckt_lines cs) ≡ []
  no_body m n (Subckt s) cs e h = grind arith
  no_body m n b cs e h = h e

  no_lines : (m : ModelValue) (cs : List Command) → lines_ways m cs ≡ [] → subckt_lines cs ≡ []
  no_lines m [] e = refl
  no_lines m (c ∷ cs) e = no_body m c.line c.body cs e (no_lines m cs)

  -- a line that is an edge to a node, and one that is a stop
  record IsStep (l : SubcktLine) (n : ℕ) : Type 0 where
    child : IsModelOf models l.subckt.model n
    placed : IsPlaced library l

  step_line : (m : ModelValue) (l : SubcktLine) (n : ℕ) → ways_of (line_edge models m l ∷ []) ≡ leads n ∷ [] → IsStep l n
  step_line m l n e =
      let p = node_edge (line_fault library [] m l) (place_of (model_names models) l.subckt.model) n e in
      record { child = subst (Finds models l.subckt.model) p.1 (finds models l.subckt.model); placed = (free_line library [] m l p.0).placed }

  numbered : (name : List ℕ) (child : ModelValue) → model_named models name ≡ Some child → (o : Option ℕ) → Finds models name o → (n : ℕ) × (o ≡ Some n)
  numbered name child e None f = absurd (none-some child (sym f ∙ e))
  numbered name child e (Some n) f = (n, refl)

  stop_line : (m : ModelValue) (chain : List (List ℕ)) (l : SubcktLine) (s : Unit {0}) → ways_of (line_edge models m l ∷ []) ≡ stops s ∷ [] → line_fault library chain m l ≡ None → ⊥
  stop_line m chain l s e none =
      let free = free_line library chain m l none in
      let n = numbered l.subckt.model free.placed.child free.placed.named (place_of (model_names models) l.subckt.model) (finds models l.subckt.model) in
      stop_edge (line_fault library [] m l) (place_of (model_names models) l.subckt.model) s e n.0 (no_line_fault library [] m l (record { placed = free.placed; off = refl })) n.1

  module _ (path : List ℕ) (m : ModelValue) (l : SubcktLine) (n : ℕ) (step : IsStep l n) where
    child_is : l.subckt.model ≡ step.child.model.name
    child_is = named_is models l.subckt.model step.child.model step.child.named

    back_line : In path n → line_fault library (names_at models path) m l ≡ None → ⊥
    back_line i none = both_ways (has_name (names_at models path) l.subckt.model) (free_line library (names_at models path) m l none).off
        (ap (has_name (names_at models path)) child_is ∙ on_path models names n step.child.model step.child.at path i)

    good_line : (In path n → ⊥) → line_fault library (names_at models path) m l ≡ None
    good_line o = no_line_fault library (names_at models path) m l
        (record { placed = step.placed; off = ap (has_name (names_at models path)) child_is ∙ off_path models names n step.child.model step.child.at path o })

    new_line : (before : List ℕ) → (In before n → ⊥) → is_walked (models_at models (reverse before)) l.subckt.model ≡ false
    new_line before o = ap (is_walked (models_at models (reverse before))) child_is ∙ not_walked models names n step.child.model step.child.at before o

  -- what a walk by numbers does, said of the models
  abbrev pub path_of_end : Ending ℕ (Unit {0}) → List ℕ
  path_of_end (repeats n path) = path
  path_of_end (halts s path) = path

  abbrev Linked : List (List ℕ) → ModelValue → List ModelValue → List SubcktLine → WalkOutcome ℕ (Unit {0}) → Type 0
  Linked chain m before lines (goes_through after) = Walks library chain m before lines (walked (models_at models (reverse after)))
  Linked chain m before lines (ends_at end) = (fault : FlatErr) × ((path_fault models (path_of_end end) ≡ Some fault) × Walks library chain m before lines (refused fault))

  moved : (chain other : List (List ℕ)) (m k : ModelValue) (before between : List ModelValue) (lines rest : List SubcktLine) → ((r : Walked) → Walks library other k between rest r → Walks library chain m before lines r)
      → (o : WalkOutcome ℕ (Unit {0})) → Linked other k between rest o → Linked chain m before lines o
  moved chain other m k before between lines rest f (goes_through after) h = f (walked (models_at models (reverse after))) h
  moved chain other m k before between lines rest f (ends_at end) h = (h.0, ((h.1).0, f (refused h.0) (h.1).1))

  abbrev IsFirstFault : List ℕ → ModelValue → List SubcktLine → Type 0
  IsFirstFault path m lines = (fault : FlatErr) → lines_fault models (names_at models path) m lines ≡ Some fault → path_fault models path ≡ Some fault

  refused_at : (path : List ℕ) (m : ModelValue) (before : List ModelValue) (lines others : List SubcktLine) (l : SubcktLine) (end : Ending ℕ (Unit {0})) → path_of_end end ≡ path → lines ≡ l ∷ others
      → (line_fault library (names_at models path) m l ≡ None → ⊥) → IsFirstFault path m lines → Linked (names_at models path) m before lines (ends_at end)
  refused_at path m before lines others l end p e bad is =
      let t = told (line_fault library (names_at models path) m l) bad in
      let f : lines_fault models (names_at models path) m lines ≡ Some t.0 =
      ap (lines_fault models (names_at models path) m) e ∙ ap (λ o. or_later o (lines_fault models (names_at models path) m others)) t.1 in
      (t.0, (ap (path_fault models) p ∙ is t.0 f, refuse l others t.0 e t.1 refl))

  next_fault : (path : List ℕ) (m : ModelValue) (lines others : List SubcktLine) (l : SubcktLine) → lines ≡ l ∷ others → line_fault library (names_at models path) m l ≡ None → IsFirstFault path m lines → IsFirstFault path m others
  next_fault path m lines others l e none is fault h = grind arith

  own_fault : (path : List ℕ) (n : ℕ) (m : ModelValue) → slice_get models n ≡ Some m → IsFirstFault (n ∷ path) m (subckt_lines m.commands)
  own_fault path n m at fault h = ap (model_lines_fault models (names_at models (n ∷ path))) at ∙ h

  -- the walk of a placed model
  inner : (path before : List ℕ) (n : ℕ) (child : ModelValue) (r : Walked) → slice_get models n ≡ Some child → Walks library (names_at models (n ∷ path)) child (models_at models (reverse (n ∷ before))) (subckt_lines child.commands) r
      → Walks library (child.name ∷ names_at models path) child (models_at models (reverse before) ++ child ∷ []) (subckt_lines child.commands) r
  inner path before n child r at w = subst₂ (λ (c : List (List ℕ)) (b : List ModelValue). Walks library c child b (subckt_lines child.commands) r)
      (ap (λ o. with_model_name o (names_at models path)) at) (ap (models_at models)
      (reverse-append (n ∷ []) before) ∙ models_at-push models (reverse before) n child at) w

  linked : {path before : List ℕ} {ws : List (Way ℕ (Unit {0}))} {result : WalkOutcome ℕ (Unit {0})} → Enters ways path before ws result → (m : ModelValue) (cs : List Command) → ws ≡ lines_ways m cs
      → IsFirstFault path m (subckt_lines cs) → Linked (names_at models path) m (models_at models (reverse before)) (subckt_lines cs) result
  linked {path} {before} (ended e q) m cs z is = subst (Linked (names_at models path) m (models_at models (reverse before)) (subckt_lines cs)) (sym q) (stop (no_lines m cs (sym z ∙ e)) refl)
  linked {path} {before} (stopped_at s rest e q) m cs z is =
      let f = first_line m cs (stops s) rest (sym z ∙ e) in
      subst (Linked (names_at models path) m (models_at models (reverse before)) (subckt_lines cs)) (sym q)
      (refused_at path m (models_at models (reverse before)) (subckt_lines cs) (subckt_lines f.others) f.line (halts s path) refl f.lines_are (stop_line m (names_at models path) f.line s f.way) is)
  linked {path} {before} (back n rest e i q) m cs z is =
      let f = first_line m cs (leads n) rest (sym z ∙ e) in
      subst (Linked (names_at models path) m (models_at models (reverse before)) (subckt_lines cs)) (sym q)
      (refused_at path m (models_at models (reverse before)) (subckt_lines cs) (subckt_lines f.others) f.line (repeats n path) refl f.lines_are (back_line path m f.line n (step_line m f.line n f.way) i) is)
  linked {path} {before} {result = result} (enters_again n rest e off i w) m cs z is =
      let f = first_line m cs (leads n) rest (sym z ∙ e) in
      let step = step_line m f.line n f.way in
      let good = good_line path m f.line n step off in
      moved (names_at models path) (names_at models path) m m (models_at models (reverse before)) (models_at models (reverse before)) (subckt_lines cs) (subckt_lines f.others)
      (λ r v. again f.line (subckt_lines f.others) f.lines_are good
      (ap (is_walked (models_at models (reverse before))) (child_is path m f.line n step) ∙ was_walked models names n step.child.model step.child.at before i) v) result
      (linked w m f.others f.rest_is (next_fault path m (subckt_lines cs) (subckt_lines f.others) f.line f.lines_are good is))
  linked {path} {before} (enters_inside n rest end e off new w q) m cs z is =
      let f = first_line m cs (leads n) rest (sym z ∙ e) in
      let step = step_line m f.line n f.way in
      let child = step.child.model in
      let h = linked w child child.commands (ap ways_of (row_is n child step.child.at)) (own_fault path n child step.child.at) in
      subst (Linked (names_at models path) m (models_at models (reverse before)) (subckt_lines cs)) (sym q) (
        h.0,
        (
          (h.1).0,
          inside f.line (subckt_lines f.others) child h.0 f.lines_are (good_line path m f.line n step off) (new_line path m f.line n step before new) step.child.named
              (inner path before n child (refused h.0) step.child.at (h.1).1) refl,
        ),
      )
  linked {path} {before} {result = result} (enters_onward n rest after e off new w v) m cs z is =
      let f = first_line m cs (leads n) rest (sym z ∙ e) in
      let step = step_line m f.line n f.way in
      let child = step.child.model in
      let good = good_line path m f.line n step off in
      let h = linked w child child.commands (ap ways_of (row_is n child step.child.at)) (own_fault path n child step.child.at) in
      moved (names_at models path) (names_at models path) m m (models_at models (reverse before)) (models_at models (reverse after)) (subckt_lines cs) (subckt_lines f.others)
      (λ r u. onward f.line (subckt_lines f.others) child (models_at models (reverse after)) f.lines_are good (new_line path m f.line n step before new) step.child.named
      (inner path before n child (walked (models_at models (reverse after))) step.child.at h) u) result
      (linked v m f.others f.rest_is (next_fault path m (subckt_lines cs) (subckt_lines f.others) f.line f.lines_are good is))

  -- the walk from the main model
  module _ (main : ModelValue) (at : slice_get models 0 ≡ Some main) where
    abbrev MainLinked : WalkOutcome ℕ (Unit {0}) → Type 0
    MainLinked (goes_through after) = WalksMain library main (walked (models_at models (reverse after)))
    MainLinked (ends_at end) = (fault : FlatErr) × ((path_fault models (path_of_end end) ≡ Some fault) × WalksMain library main (refused fault))

    begun : (r : Walked) → Walks library (names_at models (0 ∷ [])) main (models_at models (reverse (0 ∷ []))) (subckt_lines main.commands) r → WalksMain library main r
    begun r w = record { walks = inner [] [] 0 main r at w }

    nothing_left : {path before : List ℕ} {ws : List (Way ℕ (Unit {0}))} {result : WalkOutcome ℕ (Unit {0})} → Enters ways path before ws result → ws ≡ [] → result ≡ goes_through before
    nothing_left (ended e q) z = q
    nothing_left (stopped_at s rest e q) z = absurd (cc)
    nothing_left (back n rest e i q) z = absurd (cc)
    nothing_left (enters_again n rest e off i w) z = absurd (cc)
    nothing_left (enters_inside n rest end e off new w q) z = absurd (cc)
    nothing_left (enters_onward n rest after e off new w v) z = absurd (cc)

    pub main_linked : {ws : List (Way ℕ (Unit {0}))} {result : WalkOutcome ℕ (Unit {0})} → Enters ways [] [] ws result → ws ≡ leads 0 ∷ [] → MainLinked result
    main_linked (ended e q) z = absurd (cc)
    main_linked (stopped_at s rest e q) z = absurd (cc)
    main_linked (back n rest e i q) z = absurd i
    main_linked (enters_again n rest e off i w) z = absurd i
    main_linked (enters_inside n rest end e off new w q) z =
        let same : n ≡ 0 = cc in
        let h = linked (subst (λ k. Enters ways (k ∷ []) (k ∷ []) (ways k) (ends_at end)) same w) main main.commands (ap ways_of (row_is 0 main at)) (own_fault [] 0 main at) in
        subst MainLinked (sym q) (h.0, ((h.1).0, begun (refused h.0) (h.1).1))
    main_linked {result = result} (enters_onward n rest after e off new w v) z =
        let same : n ≡ 0 = cc in
        let none : rest ≡ [] = cc in
        let h = linked (subst (λ k. Enters ways (k ∷ []) (k ∷ []) (ways k) (goes_through after)) same w) main main.commands (ap ways_of (row_is 0 main at)) (own_fault [] 0 main at) in
        subst MainLinked (sym (nothing_left v none)) (begun (walked (models_at models (reverse after))) h)

  -- the nodes are the numbers of the models
  nodes_by : (o : Option FlatErr) (name : List ℕ) (k : Option ℕ) → Finds models name k → (es : List (Edge (Unit {0}))) (n : ℕ) → (In (nodes_of (ways_of es)) n → n < length models)
      → In (nodes_of (ways_of (edge_by o k ∷ es))) n → n < length models
  nodes_by None name (Some j) found es n h (inl q) = subst (λ x. x < length models) (sym q) (slice_get_within models j found.model found.at)
  nodes_by None name (Some j) found es n h (inr i) = h i
  nodes_by o name k found es n h i = h i

  nodes_body : (m : ModelValue) (line : ℕ) (b : Body) (es : List (Edge (Unit {0}))) (n : ℕ) → (In (nodes_of (ways_of es)) n → n < length models) → In (nodes_of (ways_of (body_edge models m line b ∷ es))) n → n < length models
  nodes_body m line (Subckt s) es n h i = nodes_by (line_fault library [] m (record { line = line; subckt = s })) s.model (place_of (model_names models) s.model) (finds models s.model) es n h i
  nodes_body m line b es n h i = h i

  nodes_below : (m : ModelValue) (cs : List Command) (n : ℕ) → In (nodes_of (lines_ways m cs)) n → n < length models
  nodes_below m [] n i = absurd i
  nodes_below m (c ∷ cs) n i = nodes_body m c.line c.body (commands_edges models m cs) n (nodes_below m cs n) i

  pub model_nodes : AreNodes (λ n. n < length models) (successors (edges_at (edge_rows models models))) (length models)
  model_nodes = record {
    below = λ n l. l;
    closed = λ n k l i. (let m = at_within models n l in nodes_below m.0 m.0.commands k (subst (λ es. In (nodes_of (ways_of es)) k) (row_is n m.0 m.1) i));
  }

  -- each model stands behind those that it places
  way_in : (es : List (Edge (Unit {0}))) (e : Edge (Unit {0})) (w : Way ℕ (Unit {0})) → In es e → ways_of (e ∷ []) ≡ w ∷ [] → In (ways_of es) w
  way_in [] e w i q = i
  way_in (Node n ∷ es) e w (inl p) q = let a : leads n ≡ w = (let z : ways_of (Node n ∷ []) ≡ w ∷ [] = subst (λ x. ways_of (x ∷ []) ≡ w ∷ []) p q in cc) in inl (sym a)
  way_in (Stop s ∷ es) e w (inl p) q = let a : stops s ≡ w = (let z : ways_of (Stop s ∷ []) ≡ w ∷ [] = subst (λ x. ways_of (x ∷ []) ≡ w ∷ []) p q in cc) in inl (sym a)
  way_in (Pass ∷ es) e w (inl p) q = absurd (let z : ways_of (Pass ∷ []) ≡ w ∷ [] = subst (λ x. ways_of (x ∷ []) ≡ w ∷ []) p q in cc)
  way_in (Node n ∷ es) e w (inr i) q = inr (way_in es e w i q)
  way_in (Stop s ∷ es) e w (inr i) q = inr (way_in es e w i q)
  way_in (Pass ∷ es) e w (inr i) q = way_in es e w i q

  behind : (ns : List ℕ) (n : ℕ) → n < length models → ((w : Way ℕ (Unit {0})) → In (ways n) w → LeadsInto ns w) → IsBehind library (reverse ns) n
  behind ns n l h =
      let m = at_within models n l in
      let e : edges_at (edge_rows models models) n ≡ commands_edges models m.0 m.0.commands = row_is n m.0 m.1 in
      record {
        model = m.0;
        at = m.1;
        children = λ s i. (let c = subckt_command m.0.commands s i in
            let own : SubcktLine = record { line = c.command.line; subckt = s } in
            let edge : In (commands_edges models m.0 m.0.commands) (line_edge models m.0 own) =
            subst (λ b. In (commands_edges models m.0 m.0.commands) (body_edge models m.0 c.command.line b)) c.is (In-map (λ (x : Command). body_edge models m.0 x.line x.body) m.0.commands c.command c.member) in
            let r = edge_into (line_fault library [] m.0 own) (place_of (model_names models) s.model) ns (λ w q. h w (subst (λ es. In (ways_of es) w) (sym e) (way_in (commands_edges models m.0 m.0.commands) (line_edge models m.0 own) w edge q))) in
            record { number = r.0; place = (r.1).0; among = in_reversed ns r.0 (r.1).1 });
      }

  pub children_first : (ns : List ℕ) → IsSettled ways ns → ((n : ℕ) → In ns n → n < length models) → AreChildrenFirst library (reverse ns)
  children_first [] settled within = record { each = λ i n at. absurd (none-some n at) }
  children_first (n ∷ ns) settled within = subst (AreChildrenFirst library) (sym (reverse-append (n ∷ []) ns))
      (children_first_push library (reverse ns) n (children_first ns (settled.1).1 (λ k i. within k (inr i))) (behind ns n (within n (inl refl)) settled.0))

  -- the graph in code
  module _ (rows : List (Vec (Edge (Unit {0})) Global)) (rows_are : map (λ (row : Vec (Edge (Unit {0})) Global). row.items) rows ≡ edge_rows models models) where
    long : length rows ≡ length models
    long = sym (length-map rows (λ (row : Vec (Edge (Unit {0})) Global). row.items)) ∙ ap length rows_are ∙ length-map models (λ (m : ModelValue). commands_edges models m m.commands)

    pub graph_nodes : (count : ℕ) → count ≡ length models → AreNodes (λ n. n < length rows) (successors (edges_at (map (λ (row : Vec (Edge (Unit {0})) Global). row.items) rows))) count
    graph_nodes count q = subst₂ (λ x (y : ℕ). AreNodes (λ n. n < length rows) (successors (edges_at x)) y) (sym rows_are) (sym q)
        (subst (λ k. AreNodes (λ n. n < k) (successors (edges_at (edge_rows models models))) (length models)) (sym long) model_nodes)

  -- a visit of the main model in a walk that has not begun
  module _ (count : ℕ) (w v : WalkValue) (new : w ≡ record { count = count; begun = []; order = []; path = [] }) where
    pub order_within : Visited (edges_at (edge_rows models models)) w v 0 None → 0 < length models → (n : ℕ) → In v.order n → n < length models
    order_within d some n i = elim (d.reached.only n i) [
      | inl j ↦ absurd (subst (λ (x : WalkValue). In x.order n) new j)
      | inr r ↦ reached_only (successors (edges_at (edge_rows models models))) (λ k. k < length models) (λ k j l h. model_nodes.closed k j l h) r.reaches
          (elim r.member [ inl q ↦ subst (λ k. k < length models) (sym q) some | inr o ↦ absurd o ])
    ]

    module _ (main : ModelValue) (at : slice_get models 0 ≡ Some main) where
      entered_from : (o : WalkOutcome ℕ (Unit {0})) → Enters ways [] w.begun (leads 0 ∷ []) o → MainLinked main at o
      entered_from o h = main_linked main at (subst (λ (x : WalkValue). Enters ways [] x.begun (leads 0 ∷ []) o) new h) refl

      pub visit_walks : Visited (edges_at (edge_rows models models)) w v 0 None → WalksMain library main (walked (models_at models (reverse v.begun)))
      visit_walks d = entered_from (goes_through v.begun) d.enters

      ending_path : (end : End (Unit {0})) → path_of_end (ending_of v.path end) ≡ v.path
      ending_path (Loop n) = refl
      ending_path (stopped s) = refl

      visit_refused : (end : End (Unit {0})) → Visited (edges_at (edge_rows models models)) w v 0 (Some end) → (fault : FlatErr) × ((path_fault models v.path ≡ Some fault) × WalksMain library main (refused fault))
      visit_refused end d = let h = entered_from (ends_at (ending_of v.path end)) d.enters in (h.0, (ap (path_fault models) (sym (ending_path end)) ∙ (h.1).0, (h.1).1))

      pub visit_faulty : (end : End (Unit {0})) → Visited (edges_at (edge_rows models models)) w v 0 (Some end) → path_fault models v.path ≡ None → ⊥
      visit_faulty end d none = let h = visit_refused end d in none-some h.0 (sym none ∙ (h.1).0)

      pub visit_refuses : (end : End (Unit {0})) (e : FlatErr) → Visited (edges_at (edge_rows models models)) w v 0 (Some end) → IsTold e (path_fault models v.path) → OrMemory refusal_of (λ r. WalksMain library main (refused r)) e
      visit_refuses end e d t =
          let h = visit_refused end d in
          OrMemory-map refusal_of (λ r. path_fault models v.path ≡ Some r) (λ r. WalksMain library main (refused r)) e (λ r q. subst (λ x. WalksMain library main (refused x)) (same_Some h.0 r (sym (h.1).0 ∙ q)) (h.1).1) t
