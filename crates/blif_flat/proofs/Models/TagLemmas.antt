-- The drivers of a model's commands with the names that they drive, in line order.
use Rattle.blif_flat.proofs.Common.{◌≡◌, ℕ, zero, suc, true, List, [], ◌∷◌, ◌++◌, map, map-append, filter, in_filter, In-filter, Option, Some, None, refl, sym, ap, ap₂, ◌∙◌, subst, inl, inr, slice_get, option_map, cases_Bool, none-some, same_Some, In, In-left, In-right, In-append, In-map, from_map, false, append_assoc, both_ways, false_from_ne_true, none_else, none_both, Body, Cover, Latch, Subckt, Command, LatchValue, Connection, ModelValue, with_subckt, subckts_of, model_named, is_output, Driver, by_latch, by_cover, by_subckt, output_actuals, driven_pairs, drives, all_drives, has_name, inputs_of, FlatErr, DoublyDriven, Undriven, or_later, reads, driven_names, twice_in, twice_fault, undriven_in, undriven_fault, model_fault, models_fault, CoverValue, SubcktValue, LibraryValue, has_in, in_has, append-nil, arith, rules}

pub record Tag : Type 0 where
  pub driver : Driver
  pub name : List ℕ

abbrev pub tag : Driver → List ℕ → Tag
tag driver name = record { driver = driver; name = name }

abbrev pub pair_tags : ℕ → ModelValue → List Connection → List Tag
pair_tags k child pairs = map (λ (p : Connection). tag (by_subckt k p.formal) p.actual) (filter (λ (p : Connection). is_output child p.formal) pairs)

abbrev pub subckt_tags : ℕ → Option ModelValue → List Connection → List Tag
subckt_tags k None pairs = []
subckt_tags k (Some child) pairs = pair_tags k child pairs

abbrev pub body_tags : LibraryValue → ℕ → ℕ → Body → List Tag
body_tags library i k (Cover c) = tag (by_cover i) c.output ∷ []
body_tags library i k (Latch l) = tag (by_latch i) l.output ∷ []
body_tags library i k (Subckt s) = subckt_tags k (model_named library.models s.model) s.pairs

-- the ordinals behind a command
abbrev pub behind : Body → (ℕ → ℕ) → ℕ → ℕ
behind (Cover c) ordinal = ordinal
behind (Latch l) ordinal = ordinal
behind (Subckt s) ordinal = λ k. ordinal (suc k)

-- of commands that stand at these places, and whose subcircuits have these ordinals
abbrev pub tags : LibraryValue → (ℕ → ℕ) → (ℕ → ℕ) → List Command → List Tag
tags library place ordinal [] = []
tags library place ordinal (c ∷ cs) = body_tags library (place 0) (ordinal 0) c.body ++ tags library (λ i. place (suc i)) (behind c.body ordinal) cs

-- their names are the driven names
abbrev pub names : List Tag → List (List ℕ)
names ts = map (λ (t : Tag). t.name) ts

pair_names : (k : ℕ) (child : ModelValue) (pairs : List Connection) → names (pair_tags k child pairs) ≡ output_actuals child pairs
pair_names k child [] = refl
pair_names k child (pair ∷ pairs) = search (rules, cases_Bool, is_output, pair_names k child pairs)

subckt_names : (k : ℕ) (o : Option ModelValue) (pairs : List Connection) → names (subckt_tags k o pairs) ≡ driven_pairs o pairs
subckt_names k None pairs = refl
subckt_names k (Some child) pairs = pair_names k child pairs

body_names : (library : LibraryValue) (i k : ℕ) (b : Body) → names (body_tags library i k b) ≡ drives library b
body_names library i k (Subckt s) = subckt_names k (model_named library.models s.model) s.pairs
body_names library i k b = refl

pub tag_names : (library : LibraryValue) (place ordinal : ℕ → ℕ) (cs : List Command) → names (tags library place ordinal cs) ≡ all_drives library cs
tag_names library place ordinal [] = refl
tag_names library place ordinal (c ∷ cs) = grind (arith, map-append, body_tags, tags, behind, ap₂, body_names, tag_names library (λ i. place (suc i)) (behind c.body ordinal) cs)

-- what a tag comes from
pub data Source (library : LibraryValue) (place ordinal : ℕ → ℕ) (cs : List Command) (t : Tag) : Type 0 where
  from_cover : (i : ℕ) (c : CoverValue) → option_map (λ (d : Command). d.body) (slice_get cs i) ≡ Some (Cover c) → t ≡ tag (by_cover (place i)) c.output → Source library place ordinal cs t
  from_latch : (i : ℕ) (l : LatchValue) → option_map (λ (d : Command). d.body) (slice_get cs i) ≡ Some (Latch l) → t ≡ tag (by_latch (place i)) l.output → Source library place ordinal cs t
  from_subckt : (k : ℕ) (s : SubcktValue) (child : ModelValue) (pair : Connection) → slice_get (subckts_of cs) k ≡ Some s → model_named library.models s.model ≡ Some child → In s.pairs pair
      → is_output child pair.formal ≡ true → t ≡ tag (by_subckt (ordinal k) pair.formal) pair.actual → Source library place ordinal cs t

pair_in : (k : ℕ) (child : ModelValue) (pairs : List Connection) (pair : Connection) → In pairs pair → is_output child pair.formal ≡ true → In (pair_tags k child pairs) (tag (by_subckt k pair.formal) pair.actual)
pair_in k child pairs pair i out =
    In-map (λ (p : Connection). tag (by_subckt k p.formal) p.actual) (filter (λ (p : Connection). is_output child p.formal) pairs) pair (in_filter (λ (p : Connection). is_output child p.formal) pairs pair i out)

-- a subcircuit is the command's own, or one behind it
pub subckt_case : (b : Body) (subckts : List SubcktValue) (ordinal : ℕ → ℕ) (k : ℕ) (s : SubcktValue) (P : Type 0) → slice_get (with_subckt b subckts) k ≡ Some s
    → (b ≡ Subckt s → k ≡ 0 → P) → ((j : ℕ) → slice_get subckts j ≡ Some s → behind b ordinal j ≡ ordinal k → P) → P
subckt_case (Subckt t) subckts ordinal zero s P e here there = here (ap Subckt (same_Some t s e)) refl
subckt_case (Subckt t) subckts ordinal (suc k) s P e here there = there k e refl
subckt_case b subckts ordinal k s P e here there = there k e refl

pub subckt_behind : (b : Body) (subckts : List SubcktValue) (ordinal : ℕ → ℕ) (j : ℕ) (s : SubcktValue) → slice_get subckts j ≡ Some s
    → (k : ℕ) × (slice_get (with_subckt b subckts) k ≡ Some s) × (behind b ordinal j ≡ ordinal k)
subckt_behind (Subckt t) subckts ordinal j s e = (suc j, e, refl)
subckt_behind b subckts ordinal j s e = (j, e, refl)

module _ (library : LibraryValue) where
  in_body : (i k : ℕ) (b c : Body) (t : Tag) → b ≡ c → In (body_tags library i k c) t → In (body_tags library i k b) t
  in_body i k b c t e h = subst (λ d. In (body_tags library i k d) t) (sym e) h

  tag_of_pair : (k : ℕ) (s : SubcktValue) (child : ModelValue) (pair : Connection) → model_named library.models s.model ≡ Some child → In s.pairs pair → is_output child pair.formal ≡ true
      → In (subckt_tags k (model_named library.models s.model) s.pairs) (tag (by_subckt k pair.formal) pair.actual)
  tag_of_pair k s child pair n i out = rw n (pair_in k child s.pairs pair i out)

  pub tag_in : (place ordinal : ℕ → ℕ) (cs : List Command) (t : Tag) → Source library place ordinal cs t → In (tags library place ordinal cs) t
  tag_in place ordinal [] t (from_cover i c e q) = absurd (none-some (Cover c) e)
  tag_in place ordinal [] t (from_latch i l e q) = absurd (none-some (Latch l) e)
  tag_in place ordinal [] t (from_subckt k s child pair e n i out q) = absurd (none-some s e)
  tag_in place ordinal (d ∷ cs) t (from_cover zero c e q) = grind arith
  tag_in place ordinal (d ∷ cs) t (from_cover (suc i) c e q) = In-right (body_tags library (place 0) (ordinal 0) d.body) (tags library (λ j. place (suc j)) (behind d.body ordinal) cs) t
      (tag_in (λ j. place (suc j)) (behind d.body ordinal) cs t (from_cover i c e q))
  tag_in place ordinal (d ∷ cs) t (from_latch zero l e q) = grind arith
  tag_in place ordinal (d ∷ cs) t (from_latch (suc i) l e q) = In-right (body_tags library (place 0) (ordinal 0) d.body) (tags library (λ j. place (suc j)) (behind d.body ordinal) cs) t
      (tag_in (λ j. place (suc j)) (behind d.body ordinal) cs t (from_latch i l e q))
  tag_in place ordinal (d ∷ cs) t (from_subckt k s child pair e n i out q) =
      subckt_case d.body (subckts_of cs) ordinal k s (In (tags library place ordinal (d ∷ cs)) t) e
      (λ b z. In-left (body_tags library (place 0) (ordinal 0) d.body) (tags library (λ j. place (suc j)) (behind d.body ordinal) cs) t
      (in_body (place 0) (ordinal 0) d.body (Subckt s) t b (subst (λ u. In (subckt_tags (ordinal 0) (model_named library.models s.model) s.pairs) u)
      (ap (λ j. tag (by_subckt (ordinal j) pair.formal) pair.actual) (sym z) ∙ sym q) (tag_of_pair (ordinal 0) s child pair n i out))))
      (λ j f o. In-right (body_tags library (place 0) (ordinal 0) d.body) (tags library (λ x. place (suc x)) (behind d.body ordinal) cs) t
      (tag_in (λ x. place (suc x)) (behind d.body ordinal) cs t (from_subckt j s child pair f n i out (q ∙ ap (λ x. tag (by_subckt x pair.formal) pair.actual) (sym o)))))

  -- and the other way
  pub record OfPair (k : ℕ) (child : ModelValue) (pairs : List Connection) (t : Tag) : Type 0 where
    pub pair : Connection
    pub member : In pairs pair
    pub out : is_output child pair.formal ≡ true
    pub is : t ≡ tag (by_subckt k pair.formal) pair.actual

  pub of_pair : (k : ℕ) (child : ModelValue) (pairs : List Connection) (t : Tag) → In (pair_tags k child pairs) t → OfPair k child pairs t
  of_pair k child pairs t i =
      let r = from_map (λ (p : Connection). tag (by_subckt k p.formal) p.actual) (filter (λ (p : Connection). is_output child p.formal) pairs) t i in
      let m = In-filter (λ (p : Connection). is_output child p.formal) pairs r.0 r.1 in
      record { pair = r.0; member = m.0; out = m.1; is = r.2 }

  subckt_source : (place ordinal : ℕ → ℕ) (d : Command) (cs : List Command) (t : Tag) (s : SubcktValue) (o : Option ModelValue) → d.body ≡ Subckt s → model_named library.models s.model ≡ o
      → In (subckt_tags (ordinal 0) o s.pairs) t → Source library place ordinal (d ∷ cs) t
  subckt_source place ordinal d cs t s None e n i = absurd i
  subckt_source place ordinal d cs t s (Some child) e n i =
      let r = of_pair (ordinal 0) child s.pairs t i in
      from_subckt 0 s child r.pair (ap (λ b. slice_get (with_subckt b (subckts_of cs)) 0) e) n r.member r.out r.is

  body_source : (place ordinal : ℕ → ℕ) (d : Command) (cs : List Command) (t : Tag) (b : Body) → d.body ≡ b → In (body_tags library (place 0) (ordinal 0) b) t → Source library place ordinal (d ∷ cs) t
  body_source place ordinal d cs t (Cover c) e i = elim i [ inl q ↦ from_cover 0 c (ap Some e) q | inr o ↦ absurd o ]
  body_source place ordinal d cs t (Latch l) e i = elim i [ inl q ↦ from_latch 0 l (ap Some e) q | inr o ↦ absurd o ]
  body_source place ordinal d cs t (Subckt s) e i = subckt_source place ordinal d cs t s (model_named library.models s.model) e refl i

  later_source : (place ordinal : ℕ → ℕ) (d : Command) (cs : List Command) (t : Tag) → Source library (λ i. place (suc i)) (behind d.body ordinal) cs t → Source library place ordinal (d ∷ cs) t
  later_source place ordinal d cs t (from_cover i c e q) = from_cover (suc i) c e q
  later_source place ordinal d cs t (from_latch i l e q) = from_latch (suc i) l e q
  later_source place ordinal d cs t (from_subckt j s child pair e n i out q) =
      let r = subckt_behind d.body (subckts_of cs) ordinal j s e in
      from_subckt r.0 s child pair r.1 n i out (q ∙ ap (λ k. tag (by_subckt k pair.formal) pair.actual) r.2)

  pub tag_source : (place ordinal : ℕ → ℕ) (cs : List Command) (t : Tag) → In (tags library place ordinal cs) t → Source library place ordinal cs t
  tag_source place ordinal [] t i = absurd i
  tag_source place ordinal (d ∷ cs) t i = elim (In-append (body_tags library (place 0) (ordinal 0) d.body) (tags library (λ j. place (suc j)) (behind d.body ordinal) cs) t i) [
    | inl j ↦ body_source place ordinal d cs t d.body refl j
    | inr j ↦ later_source place ordinal d cs t (tag_source (λ j. place (suc j)) (behind d.body ordinal) cs t j)
  ]

-- What the refusals of drivers say of a model: no name is driven twice, and each that is read is driven.
none_of : (first later : Option FlatErr) → or_later first later ≡ None → (first ≡ None) × (later ≡ None)
none_of None later e = (refl, e)
none_of (Some f) later e = absurd (none-some f (sym e))

-- each name is new, behind names that are driven already
abbrev pub AreNew : List (List ℕ) → List (List ℕ) → Type 0
AreNew driven [] = Unit {0}
AreNew driven (name ∷ rest) = (has_name driven name ≡ false) × AreNew (driven ++ name ∷ []) rest

new_joined : (driven xs ys : List (List ℕ)) → AreNew driven xs → AreNew (driven ++ xs) ys → AreNew driven (xs ++ ys)
new_joined driven [] ys a b = subst (λ ns. AreNew ns ys) (append-nil driven) b
new_joined driven (x ∷ xs) ys a b = (a.0, new_joined (driven ++ x ∷ []) xs ys a.1 (subst (λ ns. AreNew ns ys) (sym (append_assoc driven (x ∷ []) xs)) b))

new_first : (driven xs ys : List (List ℕ)) → AreNew driven (xs ++ ys) → AreNew driven xs
new_first driven [] ys a = tt
new_first driven (x ∷ xs) ys a = (a.0, new_first (driven ++ x ∷ []) xs ys a.1)

new_later : (driven xs ys : List (List ℕ)) → AreNew driven (xs ++ ys) → AreNew (driven ++ xs) ys
new_later driven [] ys a = subst (λ ns. AreNew ns ys) (sym (append-nil driven)) a
new_later driven (x ∷ xs) ys a = subst (λ ns. AreNew ns ys) (append_assoc driven (x ∷ []) xs) (new_later (driven ++ x ∷ []) xs ys a.1)

twice_new : (model : List ℕ) (line : ℕ) (driven names : List (List ℕ)) → twice_in model line driven names ≡ None → AreNew driven names
twice_new model line driven [] e = tt
twice_new model line driven (name ∷ rest) e =
    let c = none_both (has_name driven name) (DoublyDriven model line name) (twice_in model line (driven ++ name ∷ []) rest) e in
    (c.0, twice_new model line (driven ++ name ∷ []) rest c.1)

new_twice : (model : List ℕ) (line : ℕ) (driven names : List (List ℕ)) → AreNew driven names → twice_in model line driven names ≡ None
new_twice model line driven [] a = refl
new_twice model line driven (name ∷ rest) a = rw (a.0) (new_twice model line (driven ++ name ∷ []) rest a.1)

module _ (library : LibraryValue) where
  pub twice_fault_new : (model : List ℕ) (driven : List (List ℕ)) (cs : List Command) → twice_fault library model driven cs ≡ None → AreNew driven (all_drives library cs)
  twice_fault_new model driven [] e = tt
  twice_fault_new model driven (c ∷ cs) e =
      let p = none_of (twice_in model c.line driven (drives library c.body)) (twice_fault library model (driven ++ drives library c.body) cs) e in
      new_joined driven (drives library c.body) (all_drives library cs) (twice_new model c.line driven (drives library c.body) p.0) (twice_fault_new model (driven ++ drives library c.body) cs p.1)

  pub new_twice_fault : (model : List ℕ) (driven : List (List ℕ)) (cs : List Command) → AreNew driven (all_drives library cs) → twice_fault library model driven cs ≡ None
  new_twice_fault model driven [] a = refl
  new_twice_fault model driven (c ∷ cs) a = grind (arith, twice_in, drives, new_twice, new_first, all_drives, new_later, new_twice_fault model (driven ++ drives library c.body) cs (new_later driven (drives library c.body) (all_drives library cs) a))

-- a new name is no driven one
pub new_apart : (driven names : List (List ℕ)) (name : List ℕ) → AreNew driven names → In names name → In driven name → ⊥
new_apart driven [] name a i d = i
new_apart driven (n ∷ rest) name a (inl e) d = both_ways (has_name driven n) a.0 (in_has driven n (subst (In driven) e d))
new_apart driven (n ∷ rest) name a (inr i) d = new_apart (driven ++ n ∷ []) rest name a.1 i (In-left driven (n ∷ []) name d)

-- new names stand once each
pub new_once : (driven : List (List ℕ)) (ts : List Tag) (t u : Tag) → AreNew driven (names ts) → In ts t → In ts u → t.name ≡ u.name → t ≡ u
new_once driven [] t u a i j e = absurd i
new_once driven (x ∷ ts) t u a (inl p) (inl q) e = p ∙ sym q
new_once driven (x ∷ ts) t u a (inl p) (inr j) e =
    absurd (new_apart (driven ++ x.name ∷ []) (names ts) u.name a.1 (In-map (λ (y : Tag). y.name) ts u j) (In-right driven (x.name ∷ []) u.name (inl (sym e ∙ ap (λ (y : Tag). y.name) p))))
new_once driven (x ∷ ts) t u a (inr i) (inl q) e =
    absurd (new_apart (driven ++ x.name ∷ []) (names ts) t.name a.1 (In-map (λ (y : Tag). y.name) ts t i) (In-right driven (x.name ∷ []) t.name (inl (e ∙ ap (λ (y : Tag). y.name) q))))
new_once driven (x ∷ ts) t u a (inr i) (inr j) e = new_once (driven ++ x.name ∷ []) ts t u a.1 i j e

-- names that stand once each, and that aren't driven, are new
abbrev pub HaveNamesApart : List Tag → Type 0
HaveNamesApart [] = Unit {0}
HaveNamesApart (t ∷ ts) = ((u : Tag) → In ts u → t.name ≡ u.name → ⊥) × HaveNamesApart ts

pub apart_new : (driven : List (List ℕ)) (ts : List Tag) → ((t : Tag) → In ts t → In driven t.name → ⊥) → HaveNamesApart ts → AreNew driven (names ts)
apart_new driven [] h a = tt
apart_new driven (t ∷ ts) h a = (
  false_from_ne_true (has_name driven t.name) (λ y. h t (inl refl) (has_in driven t.name y)),
  apart_new (driven ++ t.name ∷ []) ts (λ u i d. elim (In-append driven (t.name ∷ []) u.name d) [
    | inl j ↦ h u (inr i) j
    | inr j ↦ (elim j [ inl e ↦ a.0 u i (sym e) | inr o ↦ o ])
  ]) a.1,
)

-- each name that is read is driven
all_driven : (model : List ℕ) (line : ℕ) (driven names : List (List ℕ)) → undriven_in model line driven names ≡ None → (name : List ℕ) → In names name → In driven name
all_driven model line driven [] e name i = absurd i
all_driven model line driven (n ∷ rest) e name (inl q) = grind (arith, has_in, none_else, has_name, undriven_in)
all_driven model line driven (n ∷ rest) e name (inr i) = grind (arith, none_else, has_name, undriven_in, all_driven model line driven rest (none_else (has_name driven n) (Undriven model line n) (undriven_in model line driven rest) e).1 name i)

driven_all : (model : List ℕ) (line : ℕ) (driven names : List (List ℕ)) → ((name : List ℕ) → In names name → In driven name) → undriven_in model line driven names ≡ None
driven_all model line driven [] h = refl
driven_all model line driven (n ∷ rest) h = let t : has_name driven n ≡ true = in_has driven n (h n (inl refl)) in rw t (driven_all model line driven rest (λ name i. h name (inr i)))

module _ (library : LibraryValue) where
  reads_driven : (model : List ℕ) (driven : List (List ℕ)) (cs : List Command) → undriven_fault library model driven cs ≡ None
      → (c : Command) → In cs c → (name : List ℕ) → In (reads library c.body) name → In driven name
  reads_driven model driven [] e c i name j = absurd i
  reads_driven model driven (d ∷ cs) e c (inl q) name j = grind (arith, all_driven, reads, none_of, undriven_in, undriven_fault)
  reads_driven model driven (d ∷ cs) e c (inr i) name j = grind (arith, none_of, undriven_in, reads, undriven_fault, reads_driven model driven cs (none_of (undriven_in model d.line driven (reads library d.body)) (undriven_fault library model driven cs) e).1 c i name j)

  driven_reads : (model : List ℕ) (driven : List (List ℕ)) (cs : List Command) → ((c : Command) → In cs c → (name : List ℕ) → In (reads library c.body) name → In driven name) → undriven_fault library model driven cs ≡ None
  driven_reads model driven [] h = refl
  driven_reads model driven (d ∷ cs) h = grind (arith, undriven_in, reads, driven_all, driven_reads model driven cs (λ c i. h c (inr i)))

  -- a model without F5 and F6
  pub record IsClean (m : ModelValue) : Type 0 where
    pub new : AreNew (inputs_of m) (all_drives library m.commands)
    pub commands : (c : Command) → In m.commands c → (name : List ℕ) → In (reads library c.body) name → In (driven_names library m) name
    pub outputs : (name : List ℕ) → In m.outputs name → In (driven_names library m) name

  pub clean : (m : ModelValue) → model_fault library m ≡ None → IsClean m
  clean m e = grind (arith, or_later, undriven_fault, driven_names, undriven_in, none_of, twice_fault, inputs_of, twice_fault_new, reads_driven, all_driven)

  pub no_model_fault : (m : ModelValue) → IsClean m → model_fault library m ≡ None
  no_model_fault m c = grind (arith, twice_fault, inputs_of, new_twice_fault, undriven_fault, driven_names, driven_reads, undriven_in, driven_all, or_later)

  pub models_clean : (ms : List ModelValue) → models_fault library ms ≡ None → (m : ModelValue) → In ms m → IsClean m
  models_clean [] e m i = absurd i
  models_clean (x ∷ ms) e m (inl q) = subst IsClean (sym q) (clean x (none_of (model_fault library x) (models_fault library ms) e).0)
  models_clean (x ∷ ms) e m (inr i) = models_clean ms (none_of (model_fault library x) (models_fault library ms) e).1 m i

  pub no_models_fault : (ms : List ModelValue) → ((m : ModelValue) → In ms m → IsClean m) → models_fault library ms ≡ None
  no_models_fault [] h = refl
  no_models_fault (m ∷ ms) h = grind (arith, model_fault, no_model_fault, or_later, models_fault, no_models_fault ms (λ x i. h x (inr i)))
