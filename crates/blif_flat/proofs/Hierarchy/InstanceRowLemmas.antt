-- The instances of instances: those that wait are put behind the others one by one, and in the end they are all instances in flat order.
use Rattle.blif_flat.proofs.Common.{◌≡◌, ℕ, suc, List, ◌∷◌, length, Some, sym, ap, ◌∙◌, arith, ◌+◌, ◌<◌, ◌≤◌, [], ◌++◌, Option, None, refl, subst, inl, inr, append_assoc, reverse, slice_get, option_and_then, same_Some, none-some, slice_get_within, length-append, append-nil, reverse-append, reverse-reverse, get_before, get_end, get_pushed, LibraryValue, ModelValue, Body, Subckt, Command, Path, model_at, subckts_of, with_subckt, model_named, Instance, AreInstances, IsRow, paths_of, path_under, path_of, paths_from, IsLight, number_or_zero, entry_of, with_entry, entries_from, entries_at, IsWaiting, Waits, Listed, place_of, model_names, Finds, most_weight, own_weight, Weighs, weighs, WeighAll, flat, InstanceOrder, InstancesUnder, itself, SubcktValue, AreFrom, from_start, from_first, from_rest, placed_at, cons_first, cons_rest, rules}
use Rattle.netlist.specs.Places.{none as under_none, more as under_more}
use Rattle.blif_flat.specs.Bodies.InstanceRows.{none, more}
use Rattle.netlist.specs.Weight.{none as weigh_none, more as weigh_more}
use Rattle.blif_flat.proofs.Hierarchy.InstanceWeightLemmas.{order_few}
use Rattle.blif_flat.proofs.Models.NameSetLemmas.{finds}

-- the instances of the subcircuits of some commands
body_entries : (names : List (List ℕ)) (parent k : ℕ) (entries : List Instance) (body : Body) (ss : List SubcktValue) → k ≡ length entries
    → with_entry names parent entries body ++ entries_at names parent (length (with_entry names parent entries body)) ss ≡ entries ++ entries_at names parent k (with_subckt body ss)
body_entries names parent k entries (Subckt s) ss e = grind (arith, entry_of, length-append, entries_at, append_assoc)
body_entries names parent k entries b ss e = ap (λ n. entries ++ entries_at names parent n ss) (sym e)

entries_are : (names : List (List ℕ)) (parent : ℕ) (entries : List Instance) (cs : List Command) → entries_from names parent entries cs ≡ entries ++ entries_at names parent (length entries) (subckts_of cs)
entries_are names parent entries [] = sym (append-nil entries)
entries_are names parent entries (c ∷ cs) = entries_are names parent (with_entry names parent entries c.body) cs ∙ body_entries names parent (length entries) entries c.body (subckts_of cs) refl

-- the paths of one more row
paths_from-push : (paths : List Path) (instances : List Instance) (row : Instance) → paths_from paths (instances ++ row ∷ []) ≡ paths_from paths instances ++ path_of (paths_from paths instances) row ∷ []
paths_from-push paths [] row = refl
paths_from-push paths (r ∷ instances) row = paths_from-push (paths ++ path_of paths r ∷ []) instances row

paths_from-length : (paths : List Path) (instances : List Instance) → length (paths_from paths instances) ≡ length paths + length instances
paths_from-length paths [] = omega arith
paths_from-length paths (r ∷ instances) = grind (arith, path_of, length-append, paths_from-length (paths ++ path_of paths r ∷ []) instances)

pub paths_of-length : (instances : List Instance) → length (paths_of instances) ≡ length instances
paths_of-length instances = let a : length (paths_from [] instances) ≡ 0 + length instances = paths_from-length [] instances in omega arith

outer_stays : (made extra : List Path) (o : Option ℕ) → ((p : ℕ) → o ≡ Some p → p < length made) → option_and_then (slice_get (made ++ extra)) o ≡ option_and_then (slice_get made) o
outer_stays made extra None h = refl
outer_stays made extra (Some p) h = get_before made extra p (h p refl)

path_stays : (made extra : List Path) (row : Instance) → ((p : ℕ) → row.parent ≡ Some p → p < length made) → path_of (made ++ extra) row ≡ path_of made row
path_stays made extra row h = ap (path_under row.ordinal) (outer_stays made extra row.parent h)

-- a model that weighs has an order of the instances in it
module _ (library : LibraryValue) where
  mutual
    order_weighed : {m : ModelValue} {w : ℕ} → Weighs library m w → (path : Path) → (paths : List Path) × InstanceOrder library path m paths
    order_weighed (weighs inner all is) path = let r = under_weighed all path 0 in (path ∷ r.0, flat r.0 r.1 refl)

    under_weighed : {subckts : List SubcktValue} {w : ℕ} → WeighAll library subckts w → (path : Path) (k : ℕ) → (paths : List Path) × InstancesUnder library path k subckts paths
    under_weighed (weigh_none a b) path k = ([], under_none a refl)
    under_weighed (weigh_more s rest child first others a named one all is) path k =
        let r = order_weighed one (k ∷ path) in
        let q = under_weighed all path (suc k) in
        (r.0 ++ q.0, under_more s rest child r.0 q.0 a named r.1 q.1 refl)

  -- each subcircuit places an instance at least
  order_positive : {path : Path} {m : ModelValue} {paths : List Path} → InstanceOrder library path m paths → 1 ≤ length paths
  order_positive {path} (flat inner under z) = let e : length (path ∷ inner) ≡ length (path ∷ inner) = refl in subst (λ l. 1 ≤ length l) (sym z) (let q : 1 ≤ suc (length inner) = omega arith in q)

  under_length : {path : Path} {k : ℕ} {subckts : List SubcktValue} {paths : List Path} → InstancesUnder library path k subckts paths → length subckts ≤ length paths
  under_length (under_none a b) = let e = ap length a in omega arith
  under_length {path} {k} {subckts} {paths} (under_more s rest child these others e named order under z) = grind (arith, length-append, order_positive, under_length under)

  -- the instances that wait stay so when paths are added
  waiting_stays : (made extra : List Path) (row : Instance) (m : ModelValue) → IsWaiting library made row m → IsWaiting library (made ++ extra) row m
  waiting_stays made extra row m w = record {
    earlier = λ p e. (let a : p < length made = w.earlier p e in let b : length (made ++ extra) ≡ length made + length extra = length-append made extra in omega arith);
    number = w.number;
    there = subst (λ l. model_at library l ≡ Some m) (sym (path_stays made extra row w.earlier)) w.there;
  }

  waits_stay : (made extra : List Path) {pending : List Instance} {paths : List Path} → Waits library made pending paths → Waits library (made ++ extra) pending paths
  waits_stay made extra (none a b) = none a b
  waits_stay made extra (more row rest m these others e w order waits z) =
      more row rest m these others e (waiting_stays made extra row m w) (subst (λ l. InstanceOrder library l m these) (sym (path_stays made extra row w.earlier)) order) (waits_stay made extra waits) z

  -- the instances of a model's subcircuits
  number_is : (names : List (List ℕ)) (name : List ℕ) (m : ModelValue) → names ≡ model_names library.models → model_named library.models name ≡ Some m → (o : Option ℕ) → Finds library.models name o → slice_get library.models (number_or_zero o) ≡ Some m
  number_is names name m same named None f = absurd (none-some m (sym f ∙ named))
  number_is names name m same named (Some n) f = f.at ∙ sym f.named ∙ named

  named_number : (names : List (List ℕ)) (name : List ℕ) (m : ModelValue) → names ≡ model_names library.models → model_named library.models name ≡ Some m → slice_get library.models (number_or_zero (place_of names name)) ≡ Some m
  named_number names name m same named = grind (arith, number_is, place_of, finds)

  entries_wait : (names : List (List ℕ)) (made : List Path) (place : ℕ) (m : ModelValue) → names ≡ model_names library.models → {path : Path} {k : ℕ} {subckts : List SubcktValue} {inner : List Path} → InstancesUnder library path k subckts inner
      → slice_get made place ≡ Some path → model_at library path ≡ Some m → AreFrom m k subckts → (pending : List Instance) (others : List Path) → Waits library made pending others
      → Waits library made (entries_at names place k subckts ++ pending) (inner ++ others)
  entries_wait names made place m same {path} {k} {subckts} {inner} (under_none a b) at there from pending others waits = grind arith
  entries_wait names made place m same {path} {k} {subckts} {inner} (under_more s rest child these further e named order under z) at there from pending others waits =
      let here : path_of made (entry_of names place k s) ≡ k ∷ path = ap (path_under k) at in
      let up : model_at library (k ∷ path) ≡ Some child = placed_at library path m k s child there (from_first m k subckts s rest from e) named in
      let w : IsWaiting library made (entry_of names place k s) child = grind (arith, same_Some, slice_get_within, named_number, model_at) in
      more (entry_of names place k s) (entries_at names place (suc k) rest ++ pending) child these (further ++ others) (ap (λ l. entries_at names place k l ++ pending) e) w
      (subst (λ l. InstanceOrder library l child these) (sym here) order)
      (entries_wait names made place m same under at there (from_rest m k subckts s rest from e) pending others waits)
      (ap (λ l. l ++ others) z ∙ append_assoc these further others)

  -- the next row that waits
  record Next (made : List Path) (row : Instance) (rest : List Instance) (paths : List Path) : Type 0 where
    model : ModelValue
    waiting : IsWaiting library made row model
    inner : List Path
    under : InstancesUnder library (path_of made row) 0 (subckts_of model.commands) inner
    others : List Path
    waits : Waits library made rest others
    split : paths ≡ path_of made row ∷ inner ++ others

  order_parts : {path : Path} {m : ModelValue} {paths : List Path} → InstanceOrder library path m paths → (inner : List Path) × InstancesUnder library path 0 (subckts_of m.commands) inner × (paths ≡ path ∷ inner)
  order_parts (flat inner under z) = (inner, under, z)

  next : (made : List Path) (row : Instance) (rest : List Instance) {pending : List Instance} {paths : List Path} → pending ≡ row ∷ rest → Waits library made pending paths → Next made row rest paths
  next made row rest p (none a b) = let x : row ∷ rest ≡ [] = sym p ∙ a in cc
  next made row rest p (more row' rest' m these others e w order waits z) = grind (arith, cons_first, order_parts, path_of, subckts_of, cons_rest)

  -- what is known of the next row before it is put behind the others
  pub record IsNext (instances : List Instance) (row : Instance) : Type 0 where
    pub model : ModelValue
    pub number : slice_get library.models row.model ≡ Some model
    pub room : length instances < most_weight
    pub few : length (subckts_of model.commands) ≤ most_weight

  pub next_known : (instances : List Instance) (row : Instance) (rest : List Instance) → Listed library instances (row ∷ rest) → IsNext instances row
  next_known instances row rest l =
      let made : List Path = paths_of instances in
      let n : Next made row rest l.rest = next made row rest refl l.waits in
      let b : length (made ++ l.rest) ≡ length made + length l.rest = length-append made l.rest in
      let c : length l.rest ≡ suc (length (n.inner ++ n.others)) = ap length n.split in
      let d : length (n.inner ++ n.others) ≡ length n.inner + length n.others = length-append n.inner n.others in
      let e : length made ≡ length instances = paths_of-length instances in
      let f : length (subckts_of n.model.commands) ≤ length n.inner = under_length n.under in
      record { model = n.model; number = n.waiting.number; room = omega arith; few = omega arith }

  -- a row stays one when paths are added
  row_stays : (made extra : List Path) (i : ℕ) (row : Instance) → IsRow library made i row → IsRow library (made ++ extra) i row
  row_stays made extra i row r = grind (arith, slice_get_within, get_before, path_stays)

  row_new : (made : List Path) (row : Instance) (m : ModelValue) → IsWaiting library made row m → IsRow library (made ++ path_of made row ∷ []) (length made) row
  row_new made row m w = search (rules, path_of, get_end, path_stays)

  -- the next row is put behind the others, and the instances of its subcircuits wait
  pub listed_step : (names : List (List ℕ)) → names ≡ model_names library.models → (instances : List Instance) (row : Instance) (rest : List Instance) → Listed library instances (row ∷ rest)
      → (m : ModelValue) → slice_get library.models row.model ≡ Some m → Listed library (instances ++ row ∷ []) (entries_at names (length instances) 0 (subckts_of m.commands) ++ rest)
  listed_step names same instances row rest l m number =
      let made : List Path = paths_of instances in
      let n : Next made row rest l.rest = next made row rest refl l.waits in
      let path : Path = path_of made row in
      let twin : n.model ≡ m = same_Some n.model m (sym n.waiting.number ∙ number) in
      let count : length made ≡ length instances = paths_of-length instances in
      let grown : made ++ path ∷ [] ≡ paths_of (instances ++ row ∷ []) = sym (paths_from-push [] instances row) in
      let at : slice_get (made ++ path ∷ []) (length instances) ≡ Some path = subst (λ i. slice_get (made ++ path ∷ []) i ≡ Some path) count (get_end made path []) in
      let full : made ++ l.rest ≡ (made ++ path ∷ []) ++ (n.inner ++ n.others) = ap (λ x. made ++ x) n.split ∙ sym (append_assoc made (path ∷ []) (n.inner ++ n.others)) in
      let full_now : made ++ l.rest ≡ paths_of (instances ++ row ∷ []) ++ (n.inner ++ n.others) = full ∙ ap (λ x. x ++ (n.inner ++ n.others)) grown in
      let waits : Waits library (made ++ path ∷ []) (entries_at names (length instances) 0 (subckts_of n.model.commands) ++ rest) (n.inner ++ n.others) =
      entries_wait names (made ++ path ∷ []) (length instances) n.model same n.under at n.waiting.there (from_start n.model) rest n.others (waits_stay made (path ∷ []) n.waits) in
      let waits_now : Waits library (made ++ path ∷ []) (entries_at names (length instances) 0 (subckts_of m.commands) ++ rest) (n.inner ++ n.others) = grind (arith, entries_at, subckts_of) in
      record {
        main = l.main;
        first = l.first;
        rest = n.inner ++ n.others;
        order = subst (λ x. InstanceOrder library [] l.main x) full_now l.order;
        few = subst (λ x. length x ≤ most_weight) full_now l.few;
        waits = subst (λ x. Waits library x (entries_at names (length instances) 0 (subckts_of m.commands) ++ rest) (n.inner ++ n.others)) grown waits_now;
        each = λ i r e. subst (λ x. IsRow library x i r) grown (elim (get_pushed instances row i r e) [
          | inl a ↦ row_stays made (path ∷ []) i r (l.each i r a)
          | inr a ↦ subst (λ j. IsRow library (made ++ path ∷ []) j r) (count ∙ sym a.0) (subst (λ x. IsRow library (made ++ path ∷ []) (length made) x) a.1 (row_new made row n.model n.waiting))
        ]);
      }

  -- at the start the main model's own instance waits
  pub listed_start : IsLight library → Listed library [] (record { model = 0; parent = None; ordinal = 0 } ∷ [])
  listed_start h =
      let r = order_weighed h.weighs [] in
      let few : length r.0 ≤ h.weight = order_few library itself (λ path m. (let own : 1 ≤ own_weight m = omega arith in own)) r.1 h.weighs in
      record {
        main = h.main;
        first = h.first;
        rest = r.0;
        order = r.1;
        few = omega arith;
        waits = more (record { model = 0; parent = None; ordinal = 0 }) [] h.main r.0 [] refl (record { earlier = λ p e. absurd (none-some p e); number = h.first; there = h.first }) r.1 (none refl refl) (sym (append-nil r.0));
        each = λ i row e. absurd (none-some row e);
      }

  nothing_waits : {made : List Path} {pending : List Instance} {paths : List Path} → pending ≡ [] → Waits library made pending paths → paths ≡ []
  nothing_waits p (none a b) = b
  nothing_waits p (more row rest m these others e w order waits z) = let x : row ∷ rest ≡ [] = sym e ∙ p in cc

  -- in the end none waits
  pub listed_all : (instances : List Instance) → Listed library instances [] → AreInstances library instances
  listed_all instances l = grind (arith, paths_of, nothing_waits, append-nil, most_weight, paths_of-length)

  pub next_popped : (instances stack left : List Instance) (row : Instance) → stack ≡ left ++ row ∷ [] → Listed library instances (reverse stack) → IsNext instances row
  next_popped instances stack left row e l = next_known instances row (reverse left) (subst (λ x. Listed library instances x)
      (ap reverse e ∙ reverse-append left (row ∷ [])) l)

  pub listed_pushed : (names : List (List ℕ)) → names ≡ model_names library.models → (instances stack left news : List Instance) (row : Instance) → stack ≡ left ++ row ∷ []
      → ((m : ModelValue) → slice_get library.models row.model ≡ Some m → news ≡ left ++ reverse (entries_from names (length instances) [] m.commands))
      → Listed library instances (reverse stack) → Listed library (instances ++ row ∷ []) (reverse news)
  listed_pushed names same instances stack left news row e h l =
      let k : IsNext instances row = next_popped instances stack left row e l in
      let m : ModelValue = k.model in
      let entries : List Instance = entries_from names (length instances) [] m.commands in
      let now : reverse news ≡ entries ++ reverse left = ap reverse (h m k.number) ∙ reverse-append left (reverse entries) ∙ ap (λ x. x ++ reverse left) (reverse-reverse entries) in
      let step : Listed library (instances ++ row ∷ []) (entries_at names (length instances) 0 (subckts_of m.commands) ++ reverse left) = grind (arith, listed_step, reverse-append) in
      subst (λ x. Listed library (instances ++ row ∷ []) x) (ap (λ x. x ++ reverse left) (sym (entries_are names (length instances) [] m.commands)) ∙ sym now) step

  pub listed_empty : (instances stack : List Instance) → length stack ≡ 0 → Listed library instances (reverse stack) → AreInstances library instances
  listed_empty instances [] e l = listed_all instances l
  listed_empty instances (row ∷ stack) e l = absurd (omega arith)

  pub listed_begin : (instances empty stack : List Instance) → instances ≡ [] → empty ≡ [] → stack ≡ empty ++ record { model = 0; parent = None; ordinal = 0 } ∷ [] → IsLight library → Listed library instances (reverse stack)
  listed_begin instances empty stack r e s h = grind (arith, listed_start)

pub record AreModelsOf (library : LibraryValue) (instances : List Instance) (paths : List Path) : Type 0 where
  pub count : length instances ≡ length paths
  pub each : (i : ℕ) (row : Instance) (path : Path) → slice_get instances i ≡ Some row → slice_get paths i ≡ Some path → slice_get library.models row.model ≡ model_at library path

pub models_rest : (library : LibraryValue) (row : Instance) (instances : List Instance) (path : Path) (paths : List Path) → AreModelsOf library (row ∷ instances) (path ∷ paths) → AreModelsOf library instances paths
models_rest library row instances path paths are = record {
  count = let n : suc (length instances) ≡ suc (length paths) = are.count in omega arith;
  each = λ i r p e f. are.each (suc i) r p e f;
}

pub models_of : (library : LibraryValue) (instances : List Instance) → AreInstances library instances → AreModelsOf library instances (paths_of instances)
models_of library instances are = record {
  count = sym (paths_of-length instances);
  each = λ i row path e f.
      let r : IsRow library (paths_of instances) i row = are.each i row e in
      r.number ∙ sym r.there ∙ ap (model_at library) (same_Some r.path path (sym r.at ∙ f));
}
