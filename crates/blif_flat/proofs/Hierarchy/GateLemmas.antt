-- Gates: what stands at one stands at its place, and those that are listed row by row stand at the places of all instances in flat order.
use Rattle.blif_flat.proofs.Common.{◌≡◌, ℕ, ◌<◌, List, length, Option, Some, None, refl, sym, ap, ap₂, ◌∙◌, arith, suc, ◌+◌, ◌≤◌, ◌^◌, Bool, [], ◌∷◌, ◌++◌, drop, subst, subst₂, inl, inr, append_assoc, slice_get, MatchOption, option_map, option_and_then, same_Some, slice_get_within, none-some, at_within, drop_past, cases_Bool, length-append, append-nil, In-get, LatchValue, ModelValue, Body, Command, Path, model_at, LatchAt, Place, latch_at, own_places, is_latch, FlatOrder, latch_net, Gate, Instance, AreInstances, IsRow, paths_of, IsLight, IsGateAt, kind_test, AreGatesAt, body_in, numbered_body, place_body, gate_body, GateKind, model_places, places_at, with_commands, with_model, with_rows, most_weight, path_text, IsWritten, of_latch, LibraryValue, pushed_pair, IsOfKind, flat_only, latch_at-some, body_at}
use Rattle.blif_flat.proofs.Clocking.ControlLemmas.{is_latch_at}
use Rattle.blif_flat.proofs.Hierarchy.InstanceRowLemmas.{paths_of-length, AreModelsOf, models_rest, models_of}
use Rattle.blif_flat.proofs.Hierarchy.InstanceWeightLemmas.{light_commands, light_places}
use Rattle.blif_flat.proofs.Hierarchy.OrderLemmas.{order_places, is_latch-some}

-- a row that has a path is there
pub row_within : (instances : List Instance) (i : ℕ) (path : Path) → slice_get (paths_of instances) i ≡ Some path → i < length instances
row_within instances i path e = let a = paths_of-length instances in let b = slice_get_within (paths_of instances) i path e in omega arith

module _ (library : LibraryValue) (instances : List Instance) (are : AreInstances library instances) (g : Gate) (p : Place) (at : IsGateAt (paths_of instances) g p) where
  -- the model and the body by the row of a gate are those of its place
  pub place_model : (row : Instance) → slice_get instances g.row ≡ Some row → slice_get library.models row.model ≡ model_at library p.path
  place_model row e =
      let w : IsRow library (paths_of instances) g.row row = are.each g.row row e in
      w.number ∙ sym w.there ∙ ap (model_at library) (same_Some w.path p.path (sym w.at ∙ at.row))

  pub row_body : (row : Instance) → slice_get instances g.row ≡ Some row → numbered_body library row.model g.command ≡ place_body library p
  row_body row e = ap₂ body_in at.command (place_model row e)

  -- a gate has a row
  pub gate_row : (row : Instance) × (slice_get instances g.row ≡ Some row)
  gate_row = at_within instances g.row (row_within instances g.row p.path at.row)

  pub gate_place : gate_body library instances g ≡ place_body library p
  gate_place = let r = gate_row in ap (option_and_then (λ (row : Instance). numbered_body library row.model g.command)) r.1 ∙ row_body r.0 r.1

  -- and the body of a gate is that of its place
  pub gate_body-is : (m : ModelValue) (b : Body) → model_at library p.path ≡ Some m → body_at m p.command ≡ Some b → gate_body library instances g ≡ Some b
  gate_body-is m b there is = gate_place ∙ ap (body_in p.command) there ∙ is

-- a reference that was found, by what is known of the value behind it
pub found_by : {A B : Type 0} (f : A → B) (found : Option A) (o : Option B) → option_map f found ≡ o → MatchOption found (o ≡ None) (λ a. o ≡ Some (f a))
found_by f None o e = sym e
found_by f (Some a) o e = sym e

module _ (kind : Body → Bool) (paths : List Path) where
  module _ (row : ℕ) (path : Path) (at : slice_get paths row ≡ Some path) where
    gate_pushed : (gates : List Gate) (places : List Place) (i : ℕ) → AreGatesAt paths gates places → AreGatesAt paths (gates ++ record { row = row; command = i } ∷ []) (places ++ record { path = path; command = i } ∷ [])
    gate_pushed gates places i are =
        let g : Gate = record { row = row; command = i } in
        let p : Place = record { path = path; command = i } in
        record {
          count = let a : length (gates ++ g ∷ []) ≡ length gates + 1 = length-append gates (g ∷ []) in omega (arith, length-append places (p ∷ []));
          each = λ k h q e f. elim (pushed_pair gates places g p k h q are.count e f) [
            | inl old ↦ are.each k h q old.0 old.1
            | inr new ↦ subst₂ (λ (x : Gate) (y : Place). IsGateAt paths x y) (sym new.0) (sym new.1) (record { row = at; command = refl })
          ];
        }

    -- the gates of a row's commands from a place on
    commands_gates : (i : ℕ) (cs : List Command) (gates : List Gate) (places : List Place) → AreGatesAt paths gates places → AreGatesAt paths (with_commands kind row i gates cs) (places ++ own_places kind path i cs)
    commands_gates i [] gates places are = subst (AreGatesAt paths gates) (sym (append-nil places)) are
    commands_gates i (c ∷ cs) gates places are =
        let next : i + 1 ≡ suc i = omega arith in
        elim (cases_Bool (kind c.body)) [
          | inl t ↦ rw (t, next) (subst (AreGatesAt paths (with_commands kind row (suc i) (gates ++ record { row = row; command = i } ∷ []) cs)) (append_assoc places (record { path = path; command = i } ∷ []) (own_places kind path (suc i) cs))
              (commands_gates (suc i) cs (gates ++ record { row = row; command = i } ∷ []) (places ++ record { path = path; command = i } ∷ []) (gate_pushed gates places i are)))
          | inr f ↦ rw (f, next) (commands_gates (suc i) cs gates places are)
        ]

    model_gates : (o : Option ModelValue) (gates : List Gate) (places : List Place) → AreGatesAt paths gates places → AreGatesAt paths (with_model kind row gates o) (places ++ model_places kind path o)
    model_gates None gates places are = subst (AreGatesAt paths gates) (sym (append-nil places)) are
    model_gates (Some m) gates places are = commands_gates 0 m.commands gates places are

  -- the gates of the instances from a number on, which stand at the paths from there on
  rows_gates : (library : LibraryValue) (row : ℕ) (instances : List Instance) (rest : List Path) (gates : List Gate) (places : List Place) → AreModelsOf library instances rest
      → ((j : ℕ) (p : Path) → slice_get rest j ≡ Some p → slice_get paths (row + j) ≡ Some p) → AreGatesAt paths gates places
      → AreGatesAt paths (with_rows library.models kind row gates instances) (places ++ places_at library kind rest)
  rows_gates library row [] [] gates places models from are = subst (AreGatesAt paths gates) (sym (append-nil places)) are
  rows_gates library row (r ∷ instances) (p ∷ rest) gates places models from are =
      let own : AreGatesAt paths (with_model kind row gates (slice_get library.models r.model)) (places ++ model_places kind p (model_at library p)) =
      subst (λ o. AreGatesAt paths (with_model kind row gates (slice_get library.models r.model)) (places ++ model_places kind p o)) (models.each 0 r p refl refl)
      (model_gates row p (subst (λ j. slice_get paths j ≡ Some p) (let z : row + 0 ≡ row = omega arith in z) (from 0 p refl)) (slice_get library.models r.model) gates places are) in
      let step : AreGatesAt paths (with_rows library.models kind (row + 1) (with_model kind row gates (slice_get library.models r.model)) instances) ((places ++ model_places kind p (model_at library p)) ++ places_at library kind rest) = grind (arith, with_model, model_places, model_at, models_rest, rows_gates library (row + 1) instances rest (with_model kind row gates (slice_get library.models r.model)) (places ++ model_places kind p (model_at library p)) (models_rest library r instances p rest models) (λ j q e. subst (λ n. slice_get paths n ≡ Some q) (let z : row + suc j ≡ (row + 1) + j = omega arith in z) (from (suc j) q e)) own) in
      subst (AreGatesAt paths (with_rows library.models kind row gates (r ∷ instances))) (append_assoc places (model_places kind p (model_at library p)) (places_at library kind rest)) step
  rows_gates library row instances rest gates places models from are = let n = models.count in absurd (omega arith)

-- behind the last row all gates are listed
pub all_listed : (models : List ModelValue) (kind : Body → Bool) (instances : List Instance) (row : ℕ) (gates : List Gate) → with_rows models kind row gates (drop row instances) ≡ with_rows models kind 0 [] instances → length instances ≤ row
    → gates ≡ with_rows models kind 0 [] instances
all_listed models kind instances row gates e h = ap (with_rows models kind row gates) (sym (drop_past instances row h)) ∙ e

module _ (library : LibraryValue) (instances : List Instance) (are : AreInstances library instances) where
  -- the gates of all rows
  pub all_gates : (kind : Body → Bool) → AreGatesAt (paths_of instances) (with_rows library.models kind 0 [] instances) (places_at library kind (paths_of instances))
  all_gates kind =
      rows_gates kind (paths_of instances) library 0 instances (paths_of instances) [] [] (models_of library instances are) (λ j p e. subst (λ n. slice_get (paths_of instances) n ≡ Some p) (let z : j ≡ 0 + j = omega arith in z) e)
      (record { count = refl; each = λ k g p e f. absurd (none-some g e) })

  pub few_gates : IsLight library → (kind : GateKind) (gates : List Gate) → gates ≡ with_rows library.models (kind_test kind) 0 [] instances → length gates ≤ most_weight
  few_gates light kind gates is = grind (arith, paths_of, with_rows, kind_test, places_at, all_gates, light_places)

  -- the commands of a row's model are few
  pub row_commands : IsLight library → (i : ℕ) (row : Instance) → slice_get instances i ≡ Some row → (m : ModelValue) → slice_get library.models row.model ≡ Some m → length m.commands < 2 ^ 32
  row_commands light i row e m at =
      let r = are.each i row e in
      omega (arith, light_commands library light r.path m (r.there ∙ ap Some (same_Some r.model m (sym r.number ∙ at))))

module _ (paths : List Path) (gates : List Gate) (places : List Place) (are : AreGatesAt paths gates places) where
  -- the place of a gate
  pub record HasPlace (k : ℕ) (g : Gate) : Type 0 where
    pub place : Place
    pub at : slice_get places k ≡ Some place
    pub is : IsGateAt paths g place

  pub has_place : (k : ℕ) (g : Gate) → slice_get gates k ≡ Some g → HasPlace k g
  has_place k g e =
      let p = at_within places k (let h = slice_get_within gates k g e in let n = are.count in omega arith) in
      record { place = p.0; at = p.1; is = are.each k g p.0 e p.1 }

  pub place_within : (k : ℕ) (p : Place) → slice_get places k ≡ Some p → k < length gates
  place_within k p e = let h = slice_get_within places k p e in let n = are.count in omega arith

-- the row of a gate
pub gate_within : (instances : List Instance) (gates : List Gate) (places : List Place) → AreGatesAt (paths_of instances) gates places → (k : ℕ) (g : Gate) → slice_get gates k ≡ Some g → g.row < length instances
gate_within instances gates places are k g e = let h = has_place (paths_of instances) gates places are k g e in row_within instances g.row h.place.path h.is.row

module _ (library : LibraryValue) (instances : List Instance) (are : AreInstances library instances) where
  pub flat_places : (kind : Body → Bool) → FlatOrder library kind [] are.main (places_at library kind (paths_of instances))
  flat_places kind = order_places library kind are.order are.first

  of_kind : (kind : Body → Bool) (k : ℕ) (p : Place) → slice_get (places_at library kind (paths_of instances)) k ≡ Some p → IsOfKind library kind p
  of_kind kind k p e = flat_only library kind are.main (places_at library kind (paths_of instances)) are.first (flat_places kind) p (In-get (places_at library kind (paths_of instances)) k p e)

  -- a latch stands at a place of latches
  pub latch_place : (k : ℕ) (p : Place) → slice_get (places_at library is_latch (paths_of instances)) k ≡ Some p → (l : LatchValue) × LatchAt library p.path p.command l
  latch_place k p e = let o = of_kind is_latch k p e in let l = is_latch-some o.body o.kind_is in (l.0, record { model = o.model; at = o.at; is = o.is ∙ ap Some l.1 })

  -- the net of a latch is written as its output at its instance
  module _ (latches : List Gate) (ats : AreGatesAt (paths_of instances) latches (places_at library is_latch (paths_of instances))) (k : ℕ) (g : Gate) (here : slice_get latches k ≡ Some g)
      (p : Place) (at : slice_get (places_at library is_latch (paths_of instances)) k ≡ Some p) where
    pub latch_stands : ((q : Place) → IsGateAt (paths_of instances) g q → latch_at library q ≡ None) → ⊥
    latch_stands h = let l = latch_place k p at in none-some l.0 (sym (h p (ats.each k g p here at)) ∙ latch_at-some library p l.0 l.1)

    pub latch_written : (text : List ℕ) (l : LatchValue) → ((q : Place) → IsGateAt (paths_of instances) g q → latch_at library q ≡ Some l)
        → ((path : Path) → slice_get (paths_of instances) g.row ≡ Some path → text ≡ path_text path ++ l.output) → IsWritten library (latch_net p.path p.command) text
    latch_written text l h t =
        let is = ats.each k g p here at in of_latch p.path p.command l refl (is_latch_at library p l (h p is)) (t p.path is.row)
