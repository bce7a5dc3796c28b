-- Steps of a search for faults of drivers, and the search as far as it has come.
use Rattle.blif_flat.proofs.Common.{◌≡◌, ℕ, suc, ◌+◌, ◌<◌, List, [], ◌∷◌, ◌++◌, length, get_or, drop, Option, Some, None, refl, sym, ap, ◌∙◌, subst, inl, inr, arith, choose, map, filter, append_assoc, drop-cons, slice_get, cases_Bool, drop_at, OrMemory-map, none-some, same_Some, In, In-append, In-get, In-map, Connection, ModelValue, has_name, is_input, is_output, FlatErr, refusal_of, IsTold, or_later, output_actuals, input_actuals, twice_in, undriven_in, models_fault, fault_of, with_numbered, models_at, Command, Body, Cover, Latch, Subckt, Path, model_at, inputs_of, subckts_of, model_named, by_input, IsDriver, input, IsDriven, Driver, by_latch, by_cover, by_subckt, InstanceAt, latch, cover, output, IsRead, cover_input, latch_input, latch_control, input_actual, model_output, IsWellFormed, walked, WalksMain, unknown_formal, open_input, AreOnce, formals, LibraryValue, SubcktValue, inside, in_input, input_in, append-nil, rules}
use Rattle.netlist.specs.WellFormed.{IsWellFormedBody}
use Rattle.blif_flat.proofs.Hierarchy.InstanceLemmas.{own_tags, tag_driver, driver_name, command_reads, output_driven, subckt_in, subckt_more, subckt_command, clean_once, clean_driven}
use Rattle.blif_flat.proofs.Models.LineLemmas.{IsPlaced, formal_is, input_connected}
use Rattle.blif_flat.proofs.Models.TagLemmas.{Tag, tag_names, Source, from_cover, from_latch, from_subckt, tag_source, tag, pair_tags, subckt_tags, body_tags, behind, tags, of_pair, AreNew, HaveNamesApart, apart_new, IsClean, no_models_fault, models_clean}
use Rattle.blif_flat.proofs.Models.WalkedLemmas.{walked_at, line_of, named_in, Fine, main_fine, fine_ends, fine_holds, fine_placed, fine_at}

-- a first refusal is told whatever comes later
or_first : (fault later : Option FlatErr) (r : FlatErr) → fault ≡ Some r → or_later fault later ≡ Some r
or_first (Some e) later r h = h
or_first None later r h = ap (λ f. or_later f later) h

-- the names of a line in two parts
pub twice-append : (model : List ℕ) (line : ℕ) (driven a b : List (List ℕ)) → twice_in model line driven (a ++ b) ≡ or_later (twice_in model line driven a) (twice_in model line (driven ++ a) b)
twice-append model line driven [] b = ap (λ d. twice_in model line d b) (sym (append-nil driven))
twice-append model line driven (x ∷ a) b = search (rules, cases_Bool, has_name, or_later, twice_in, append_assoc, twice-append model line (driven ++ x ∷ []) a b)

pub undriven-append : (model : List ℕ) (line : ℕ) (driven a b : List (List ℕ)) → undriven_in model line driven (a ++ b) ≡ or_later (undriven_in model line driven a) (undriven_in model line driven b)
undriven-append model line driven [] b = refl
undriven-append model line driven (x ∷ a) b = search (rules, cases_Bool, has_name, undriven-append model line driven a b)

pub output_actuals-cons : (child : ModelValue) (pair : Connection) (pairs : List Connection) → output_actuals child (pair ∷ pairs) ≡ output_actuals child (pair ∷ []) ++ output_actuals child pairs
output_actuals-cons child pair pairs = elim (cases_Bool (is_output child pair.formal)) [ inl t ↦ rw t refl | inr f ↦ rw f refl ]

pub input_actuals-cons : (child : ModelValue) (pair : Connection) (pairs : List Connection) → input_actuals child (pair ∷ pairs) ≡ input_actuals child (pair ∷ []) ++ input_actuals child pairs
input_actuals-cons child pair pairs = elim (cases_Bool (is_input child pair.formal)) [ inl t ↦ rw t refl | inr f ↦ rw f refl ]

-- the first connection of the rest, and those behind it
pub read_split : (child : ModelValue) (model : List ℕ) (line : ℕ) (driven : List (List ℕ)) (pairs : List Connection) (i : ℕ) (pair : Connection) → i < length pairs → pair ≡ get_or pairs i pair
    → undriven_in model line driven (input_actuals child (drop i pairs)) ≡ or_later (undriven_in model line driven (input_actuals child (pair ∷ []))) (undriven_in model line driven (input_actuals child (drop (i + 1) pairs)))
read_split child model line driven pairs i pair h e = grind (arith, undriven_in, input_actuals, drop_at, input_actuals-cons, undriven-append)

pub drive_split : (child : ModelValue) (model : List ℕ) (line : ℕ) (driven : List (List ℕ)) (pairs : List Connection) (i : ℕ) (pair : Connection) → i < length pairs → pair ≡ get_or pairs i pair
    → twice_in model line driven (output_actuals child (drop i pairs))
    ≡ or_later (twice_in model line driven (output_actuals child (pair ∷ []))) (twice_in model line (driven ++ output_actuals child (pair ∷ [])) (output_actuals child (drop (i + 1) pairs)))
drive_split child model line driven pairs i pair h e = grind (arith, twice_in, output_actuals, drop_at, output_actuals-cons, twice-append)

pub names_split : (child : ModelValue) (driven : List (List ℕ)) (pairs : List Connection) (i : ℕ) (pair : Connection) → i < length pairs → pair ≡ get_or pairs i pair
    → driven ++ output_actuals child (drop i pairs) ≡ (driven ++ output_actuals child (pair ∷ [])) ++ output_actuals child (drop (i + 1) pairs)
names_split child driven pairs i pair h e = grind (arith, output_actuals, drop_at, output_actuals-cons, append_assoc)

-- a refusal of a first part is that of the whole, and without one the whole is the later part
pub told : (e : FlatErr) (whole first later all : Option FlatErr) → whole ≡ or_later first later → whole ≡ all → IsTold e first → IsTold e all
told e whole first later all split same h = grind arith

pub gone_on : (whole first later all : Option FlatErr) → whole ≡ or_later first later → whole ≡ all → first ≡ None → later ≡ all
gone_on whole first later all split same h = sym (ap (λ f. or_later f later) h) ∙ sym split ∙ same

models_with : (library : LibraryValue) (o : Option ModelValue) (ms : List ModelValue) → models_fault library (with_numbered o ms) ≡ or_later (fault_of library o) (models_fault library ms)
models_with library None ms = refl
models_with library (Some m) ms = refl

-- the first model of some numbers, and those behind it
pub models_split : (library : LibraryValue) (numbers : List ℕ) (i : ℕ) → i < length numbers
    → models_fault library (models_at library.models (drop i numbers)) ≡ or_later (fault_of library (slice_get library.models (get_or numbers i 0))) (models_fault library (models_at library.models (drop (i + 1) numbers)))
models_split library numbers i h = grind (arith, models_fault, models_at, drop-cons, models_with)

-- None of F1 to F6 stands where the walk refuses nothing and the walked models have no refusal of drivers; and the drivers of their commands are told apart.

-- formals that stand once each tell connections apart
pairs_apart : (pairs : List Connection) (pair other : Connection) → AreOnce (formals pairs) → In pairs pair → In pairs other → pair.formal ≡ other.formal → pair ≡ other
pairs_apart [] pair other once i j e = absurd i
pairs_apart (p ∷ pairs) pair other once (inl a) (inl b) e = a ∙ sym b
pairs_apart (p ∷ pairs) pair other once (inl a) (inr j) e =
    absurd (once.0 (subst (In (formals pairs)) (sym e ∙ ap (λ (y : Connection). y.formal) a) (In-map (λ (y : Connection). y.formal) pairs other j)))
pairs_apart (p ∷ pairs) pair other once (inr i) (inl b) e =
    absurd (once.0 (subst (In (formals pairs)) (e ∙ ap (λ (y : Connection). y.formal) b) (In-map (λ (y : Connection). y.formal) pairs pair i)))
pairs_apart (p ∷ pairs) pair other once (inr i) (inr j) e = pairs_apart pairs pair other once.1 i j e

-- the instance of a driver, and that of a read
instance_of : {library : LibraryValue} {path : Path} {name : List ℕ} {driver : Driver} → IsDriver library path name driver → InstanceAt library path
instance_of (input a i q) = a
instance_of (latch i l a p q) = record { model = a.model; at = a.at }
instance_of (cover i c a p q) = record { model = a.model; at = a.at }
instance_of (output k pair a out p q) = record { model = a.model; at = a.at }

instance_read : {library : LibraryValue} {path : Path} {name : List ℕ} → IsRead library path name → InstanceAt library path
instance_read (cover_input i c a j) = record { model = a.model; at = a.at }
instance_read (latch_input i l a p) = record { model = a.model; at = a.at }
instance_read (latch_control i l a p) = record { model = a.model; at = a.at }
instance_read (input_actual k pair a t p) = record { model = a.model; at = a.at }
instance_read (model_output m e t) = record { model = m; at = e }

module _ (library : LibraryValue) (formed : IsWellFormed library) where
  pub model_in : (path : Path) (m : ModelValue) → model_at library path ≡ Some m → In library.models m
  model_in [] m e = In-get library.models 0 m e
  model_in (k ∷ outer) m e = let r = inside library outer k m e in named_in library.models (r.subckt).model m r.places

  -- no subcircuit of an instance has a formal twice
  pub formals_once : (path : Path) (m : ModelValue) (s : SubcktValue) → model_at library path ≡ Some m → In (subckts_of m.commands) s → AreOnce (formals s.pairs)
  formals_once path m s at i =
      let c = subckt_command m.commands s i in subst IsWellFormedBody c.is ((formed.each m (model_in path m at)).commands c.command c.member)

  -- what the walk found of a subcircuit
  placing : {m : ModelValue} → Fine library (IsClean library) m → (k : ℕ) (s : SubcktValue) → slice_get (subckts_of m.commands) k ≡ Some s → IsPlaced library (record { line = 0; subckt = s })
  placing {m} f k s e =
      let r = line_of m.commands s (In-get (subckts_of m.commands) k s e) in
      let p = fine_placed library (IsClean library) f r.line r.member in
      subst (λ t. IsPlaced library (record { line = 0; subckt = t })) r.is (record { child = p.child; named = p.named; formals = p.formals; inputs = p.inputs })

  module _ (main : ModelValue) (at : model_at library [] ≡ Some main) (good : Fine library (IsClean library) main) where
    here : (path : Path) (m : ModelValue) → model_at library path ≡ Some m → Fine library (IsClean library) m
    here path m e = fine_at library (IsClean library) main at good path m e

    fine_driven : IsDriven library
    fine_driven = record {
      known = λ path m k s e g. (let p = placing (here path m e) k s g in (p.child, p.named));
      finite = λ path m e. fine_ends library (IsClean library) (here path m e);
      formals = λ path k pair a.
          let p = placing (here path a.model a.at) k a.subckt a.is in
          let same : p.child ≡ a.child = same_Some p.child a.child (sym p.named ∙ a.places) in
          formal_is a.child (a.subckt).pairs (subst (λ c. unknown_formal c (a.subckt).pairs ≡ None) same p.formals) pair a.member;
      apart = λ path k pair other a b e.
          let m : b.model ≡ a.model = same_Some b.model a.model (sym b.at ∙ a.at) in
          let g : slice_get (subckts_of (a.model).commands) k ≡ Some b.subckt = subst (λ x. slice_get (subckts_of x.commands) k ≡ Some b.subckt) m b.is in
          let s : b.subckt ≡ a.subckt = same_Some b.subckt a.subckt (sym g ∙ a.is) in
          pairs_apart (a.subckt).pairs pair other (formals_once path a.model a.subckt a.at (In-get (subckts_of (a.model).commands) k a.subckt a.is)) a.member
          (subst (λ x. In x.pairs other) s b.member) e;
      connected = λ path k m name e t.
          let r = inside library path k m e in
          let p = placing (here path r.model r.at) k r.subckt r.is in
          let same : p.child ≡ m = same_Some p.child m (sym p.named ∙ r.places) in
          let c = input_connected (r.subckt).pairs (inputs_of m) (subst (λ x. open_input (r.subckt).pairs (inputs_of x) ≡ None) same p.inputs) name (input_in m name t) in
          (c.pair, record { model = r.model; subckt = r.subckt; child = m; at = r.at; is = r.is; member = c.member; places = r.places }, sym c.formal);
      once = λ path name driver other d o.
          let i = instance_of d in
          clean_once library path i.model i.at (fine_holds library (IsClean library) (here path i.model i.at)) name driver other d o;
      driven = λ path name r.
          let i = instance_read r in clean_driven library path i.model i.at (fine_holds library (IsClean library) (here path i.model i.at)) name r;
    }

pub walked_driven : (library : LibraryValue) (main : ModelValue) (ms : List ModelValue) → IsWellFormed library → model_at library [] ≡ Some main → WalksMain library main (walked ms) → models_fault library ms ≡ None → IsDriven library
walked_driven library main ms formed at w e = fine_driven library formed main at (main_fine library (IsClean library) main ms at w (models_clean library ms e))

abbrev pub AreDistinct : List Tag → Type 0
AreDistinct [] = Unit {0}
AreDistinct (t ∷ ts) = ((u : Tag) → In ts u → t.driver ≡ u.driver → ⊥) × AreDistinct ts

distinct_joined : (xs ys : List Tag) → AreDistinct xs → AreDistinct ys → ((t u : Tag) → In xs t → In ys u → t.driver ≡ u.driver → ⊥) → AreDistinct (xs ++ ys)
distinct_joined [] ys a b h = b
distinct_joined (x ∷ xs) ys a b h = (
  λ u i e. elim (In-append xs ys u i) [ inl j ↦ a.0 u j e | inr j ↦ h x u (inl refl) j e ],
  distinct_joined xs ys a.1 b (λ t u i j. h t u (inr i) j),
)

abbrev pub IsInjective : (ℕ → ℕ) → Type 0
IsInjective f = (i j : ℕ) → f i ≡ f j → i ≡ j

module _ (library : LibraryValue) where
  pairs_distinct : (k : ℕ) (child : ModelValue) (pairs : List Connection) → AreOnce (formals pairs) → AreDistinct (pair_tags k child pairs)
  pairs_distinct k child [] once = tt
  pairs_distinct k child (p ∷ pairs) once =
      choose (λ ps. AreDistinct (map (λ (q : Connection). tag (by_subckt k q.formal) q.actual) ps)) (is_output child p.formal)
      (p ∷ filter (λ (q : Connection). is_output child q.formal) pairs) (filter (λ (q : Connection). is_output child q.formal) pairs) (λ y. (
        λ u i e. (let r = of_pair library k child pairs u i in
            let f : p.formal ≡ (r.pair).formal = cc in
            once.0 (subst (In (formals pairs)) (sym f) (In-map (λ (x : Connection). x.formal) pairs r.pair r.member))),
        pairs_distinct k child pairs once.1,
      )) (λ f. pairs_distinct k child pairs once.1)

  subckt_distinct : (k : ℕ) (o : Option ModelValue) (pairs : List Connection) → AreOnce (formals pairs) → AreDistinct (subckt_tags k o pairs)
  subckt_distinct k None pairs once = tt
  subckt_distinct k (Some child) pairs once = pairs_distinct k child pairs once

  body_distinct : (i k : ℕ) (b : Body) → ((s : SubcktValue) → b ≡ Subckt s → AreOnce (formals s.pairs)) → AreDistinct (body_tags library i k b)
  body_distinct i k (Subckt s) once = subckt_distinct k (model_named library.models s.model) s.pairs (once s refl)
  body_distinct i k b once = (λ u j e. absurd j, tt)

  -- a command's driver isn't one of the commands behind it
  module _ (place ordinal : ℕ → ℕ) (one : IsInjective place) (cs : List Command) where
    apart_cover : (after : ℕ → ℕ) (t u : Tag) → t.driver ≡ by_cover (place 0) → Source library (λ i. place (suc i)) after cs u → t.driver ≡ u.driver → ⊥
    apart_cover after t u d (from_cover i c e q) f = let n : place 0 ≡ place (suc i) = cc in let z = one 0 (suc i) n in absurd (omega arith)
    apart_cover after t u d (from_latch i l e q) f = cc
    apart_cover after t u d (from_subckt k s child pair e n i out q) f = cc

    apart_latch : (after : ℕ → ℕ) (t u : Tag) → t.driver ≡ by_latch (place 0) → Source library (λ i. place (suc i)) after cs u → t.driver ≡ u.driver → ⊥
    apart_latch after t u d (from_cover i c e q) f = cc
    apart_latch after t u d (from_latch i l e q) f = let n : place 0 ≡ place (suc i) = cc in let z = one 0 (suc i) n in absurd (omega arith)
    apart_latch after t u d (from_subckt k s child pair e n i out q) f = cc

    apart_subckt : IsInjective ordinal → (formal : List ℕ) (t u : Tag) → t.driver ≡ by_subckt (ordinal 0) formal → Source library (λ i. place (suc i)) (λ k. ordinal (suc k)) cs u → t.driver ≡ u.driver → ⊥
    apart_subckt single formal t u d (from_cover i c e q) f = cc
    apart_subckt single formal t u d (from_latch i l e q) f = cc
    apart_subckt single formal t u d (from_subckt k s child pair e m i out q) f = let n : ordinal 0 ≡ ordinal (suc k) = cc in let z = single 0 (suc k) n in absurd (omega arith)

    apart_pairs : IsInjective ordinal → (o : Option ModelValue) (pairs : List Connection) (t u : Tag) → In (subckt_tags (ordinal 0) o pairs) t → Source library (λ i. place (suc i)) (λ k. ordinal (suc k)) cs u → t.driver ≡ u.driver → ⊥
    apart_pairs single None pairs t u i s e = i
    apart_pairs single (Some child) pairs t u i s e =
        let r = of_pair library (ordinal 0) child pairs t i in apart_subckt single (r.pair).formal t u (ap (λ (x : Tag). x.driver) r.is) s e

    apart_body : IsInjective ordinal → (b : Body) (t u : Tag) → In (body_tags library (place 0) (ordinal 0) b) t → Source library (λ i. place (suc i)) (behind b ordinal) cs u → t.driver ≡ u.driver → ⊥
    apart_body single (Cover c) t u i s e = elim i [ inl q ↦ apart_cover ordinal t u (ap (λ (x : Tag). x.driver) q) s e | inr o ↦ o ]
    apart_body single (Latch l) t u i s e = elim i [ inl q ↦ apart_latch ordinal t u (ap (λ (x : Tag). x.driver) q) s e | inr o ↦ o ]
    apart_body single (Subckt r) t u i s e = apart_pairs single (model_named library.models r.model) r.pairs t u i s e

  place_behind : (place : ℕ → ℕ) → IsInjective place → IsInjective (λ i. place (suc i))
  place_behind place one i j e = let z = one (suc i) (suc j) e in omega arith

  ordinal_behind : (b : Body) (ordinal : ℕ → ℕ) → IsInjective ordinal → IsInjective (behind b ordinal)
  ordinal_behind (Subckt s) ordinal one = place_behind ordinal one
  ordinal_behind b ordinal one = one

  pub tags_distinct : (place ordinal : ℕ → ℕ) → IsInjective place → IsInjective ordinal → (cs : List Command) → ((s : SubcktValue) → In (subckts_of cs) s → AreOnce (formals s.pairs)) → AreDistinct (tags library place ordinal cs)
  tags_distinct place ordinal one single [] once = tt
  tags_distinct place ordinal one single (d ∷ cs) once = distinct_joined (body_tags library (place 0) (ordinal 0) d.body) (tags library (λ i. place (suc i)) (behind d.body ordinal) cs)
      (body_distinct (place 0) (ordinal 0) d.body (λ s e. once s (subckt_in (d ∷ cs) d s (inl refl) e)))
      (tags_distinct (λ i. place (suc i)) (behind d.body ordinal) (place_behind place one) (ordinal_behind d.body ordinal single) cs (λ s i. once s (subckt_more d.body (subckts_of cs) s i)))
      (λ t u i j e. apart_body place ordinal one cs single d.body t u i (tag_source library (λ x. place (suc x)) (behind d.body ordinal) cs u j) e)

-- a command is no input
source_inner : {library : LibraryValue} (place ordinal : ℕ → ℕ) (cs : List Command) (t : Tag) → Source library place ordinal cs t → t.driver ≡ by_input → ⊥
source_inner place ordinal cs t (from_cover i c e q) d = cc
source_inner place ordinal cs t (from_latch i l e q) d = cc
source_inner place ordinal cs t (from_subckt k s child pair e n i out q) d = cc

module _ (library : LibraryValue) (formed : IsWellFormed library) (driven : IsDriven library) where
  module _ (path : Path) (m : ModelValue) (at : model_at library path ≡ Some m) where
    no_input : (t : Tag) → In (own_tags library path m at) t → In (inputs_of m) t.name → ⊥
    no_input t i j = source_inner (λ k. k) (λ k. k) m.commands t (tag_source library (λ k. k) (λ k. k) m.commands t i)
        (driven.once path t.name t.driver by_input (tag_driver library path m at t i) (input (record { model = m; at = at }) (in_input m t.name j) refl))

    tags_apart : (ts : List Tag) → ((t : Tag) → In ts t → In (own_tags library path m at) t) → AreDistinct ts → HaveNamesApart ts
    tags_apart [] h d = tt
    tags_apart (t ∷ ts) h d = (
      λ u i e. d.0 u i (driven.once path t.name t.driver u.driver (tag_driver library path m at t (h t (inl refl)))
          (subst (λ n. IsDriver library path n u.driver) (sym e) (tag_driver library path m at u (h u (inr i))))),
      tags_apart ts (λ u i. h u (inr i)) d.1,
    )

    instance_clean : IsClean library m
    instance_clean = record {
      new = subst (AreNew (inputs_of m)) (tag_names library (λ k. k) (λ k. k) m.commands) (apart_new (inputs_of m) (own_tags library path m at) no_input
          (tags_apart (own_tags library path m at) (λ t i. i) (tags_distinct library (λ k. k) (λ k. k) (λ i j e. e) (λ i j e. e) m.commands (λ s i. formals_once library formed path m s at i))));
      commands = λ c i name j. let d = driven.driven path name (command_reads library path m at c name i j) in driver_name library path m at name d.0 d.1;
      outputs = output_driven library path m at (driven.driven path);
    }

  pub driven_models : (main : ModelValue) (ms : List ModelValue) → model_at library [] ≡ Some main → WalksMain library main (walked ms) → models_fault library ms ≡ None
  driven_models main ms at w = no_models_fault library ms (λ m i.
      (let r = walked_at library driven w.walks ms refl [] at (λ k j. j) (λ x j. elim j [ inl q ↦ ([], at ∙ ap Some (sym q)) | inr o ↦ absurd o ]) m i in
      instance_clean r.0 m r.1))

  pub driven_clean : (main : ModelValue) (ms : List ModelValue) (fault : FlatErr) → model_at library [] ≡ Some main → WalksMain library main (walked ms) → models_fault library ms ≡ Some fault → ⊥
  driven_clean main ms fault at w e = none-some fault (sym (driven_models main ms at w) ∙ e)
