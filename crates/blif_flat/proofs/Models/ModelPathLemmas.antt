-- The models of a path by their numbers and by their names, and what the check of a line tells where they are being walked.
use Rattle.blif_flat.proofs.Common.{◌≡◌, ℕ, ◌+◌, ◌<◌, true, false, ◌||◌, eqb, List, [], ◌∷◌, ◌++◌, reverse, bytes_eq, append_assoc, drop, get_or, length, Option, Some, None, refl, sym, ap, ◌∙◌, subst, inl, inr, ◌⊎◌, if◌then◌else◌, slice_get, cond-true, cond-false, false_from_ne_true, or_left, or_right, append-nil, none-some, same_Some, slice_get-get_or, bytes_decides, In, drop_get, same_or, in_reversed, reversed_in, place_of, AreOnce, ModelValue, has_name, FlatErr, RecursiveModel, SubcktLine, chain_from, placed_fault, line_fault, formal_fault, unknown_formal, is_walked, IsTold, ports_fault, model_names, IsModelOf, Finds, with_numbered, models_at, edge_by, line_edge, with_name_of, with_model_name, names_at, IsPlacing, SubcktValue, Node, no_match, same_number, eqb-true, eq-eqb, arith}
use Rattle.depth_first.specs.Walk.{from_node}
use Rattle.blif_flat.proofs.Models.NameSetLemmas.{finds}
use Rattle.blif_flat.proofs.Models.WalkedLemmas.{named_is}

module _ (models : List ModelValue) where
  with_name_more : (o : Option ModelValue) (xs ys : List (List ℕ)) → with_model_name o (xs ++ ys) ≡ with_model_name o xs ++ ys
  with_name_more None xs ys = refl
  with_name_more (Some m) xs ys = refl

  names_at-append : (ns ms : List ℕ) → names_at models (ns ++ ms) ≡ names_at models ns ++ names_at models ms
  names_at-append [] ms = refl
  names_at-append (n ∷ ns) ms = ap (with_model_name (slice_get models n)) (names_at-append ns ms) ∙ with_name_more (slice_get models n) (names_at models ns) (names_at models ms)

  -- the names of one more model of several
  name_then : (now : List (List ℕ)) (o : Option ModelValue) (rest : List (List ℕ)) → with_name_of now o ++ rest ≡ now ++ with_model_name o rest
  name_then now None rest = refl
  name_then now (Some m) rest = append_assoc now (m.name ∷ []) rest

  pub names_next : (numbers : List ℕ) (i d : ℕ) (now new total : List (List ℕ)) → i < length numbers → new ≡ with_name_of now (slice_get models (get_or numbers i d))
      → now ++ names_at models (drop i numbers) ≡ total → new ++ names_at models (drop (i + 1) numbers) ≡ total
  names_next numbers i d now new total l e h =
      ap (λ ns. ns ++ names_at models (drop (i + 1) numbers)) e ∙ name_then now (slice_get models (get_or numbers i d)) (names_at models (drop (i + 1) numbers))
      ∙ ap (λ ns. now ++ names_at models ns) (sym (drop_get numbers i (get_or numbers i d) (slice_get-get_or numbers i d l))) ∙ h

  with_model_more : (o : Option ModelValue) (ms : List ModelValue) (x : ModelValue) → with_numbered o (ms ++ x ∷ []) ≡ with_numbered o ms ++ x ∷ []
  with_model_more None ms x = refl
  with_model_more (Some y) ms x = refl

  pub models_at-push : (ns : List ℕ) (n : ℕ) (m : ModelValue) → slice_get models n ≡ Some m → models_at models (ns ++ n ∷ []) ≡ models_at models ns ++ m ∷ []
  models_at-push [] n m h = ap (λ o. with_numbered o []) h
  models_at-push (k ∷ ns) n m h = ap (with_numbered (slice_get models k)) (models_at-push ns n m h) ∙ with_model_more (slice_get models k) (models_at models ns) m

  walked_one : (o : Option ModelValue) (ms : List ModelValue) (names : List (List ℕ)) (name : List ℕ) → is_walked ms name ≡ has_name names name → is_walked (with_numbered o ms) name ≡ has_name (with_model_name o names) name
  walked_one None ms names name h = h
  walked_one (Some m) ms names name h = ap (λ b. bytes_eq name m.name || b) h

  walked_named : (ns : List ℕ) (name : List ℕ) → is_walked (models_at models ns) name ≡ has_name (names_at models ns) name
  walked_named [] name = refl
  walked_named (n ∷ ns) name = walked_one (slice_get models n) (models_at models ns) (names_at models ns) name (walked_named ns name)

  -- the model of a number, and those of a path
  module _ (names : AreOnce (model_names models)) (n : ℕ) (child : ModelValue) (at : slice_get models n ≡ Some child) where
    same_or_other : (k : ℕ) (m : ModelValue) → slice_get models k ≡ Some m → ((bytes_eq child.name m.name ≡ true) × (k ≡ n)) ⊎ ((bytes_eq child.name m.name ≡ false) × (k ≡ n → ⊥))
    same_or_other k m h = elim (same_or k n) as (λ _. ((bytes_eq child.name m.name ≡ true) × (k ≡ n)) ⊎ ((bytes_eq child.name m.name ≡ false) × (k ≡ n → ⊥))) [
      | inl q ↦ inl ((bytes_decides child.name m.name).1 (ap (λ (x : ModelValue). x.name) (same_Some child m (sym at ∙ ap (slice_get models) (sym q) ∙ h))), q)
      | inr o ↦ inr (no_match child.name m.name (λ e. o (sym (same_number models n k child m names at h e))), o)
    ]

    absent : (k : ℕ) → slice_get models k ≡ None → k ≡ n → ⊥
    absent k h q = none-some child (sym h ∙ ap (slice_get models) q ∙ at)

    has_one : (k : ℕ) (o : Option ModelValue) → slice_get models k ≡ o → (rest : List (List ℕ)) → has_name (with_model_name o rest) child.name ≡ (eqb k n || has_name rest child.name)
    has_one k None h rest = ap (λ b. b || has_name rest child.name) (sym (false_from_ne_true (eqb k n) (λ t. absent k h (eqb-true k n t))))
    has_one k (Some m) h rest = elim (same_or_other k m h) [
      | inl p ↦ ap (λ b. b || has_name rest child.name) (p.0 ∙ sym (eq-eqb k n p.1))
      | inr p ↦ ap (λ b. b || has_name rest child.name) (p.0 ∙ sym (false_from_ne_true (eqb k n) (λ t. p.1 (eqb-true k n t))))
    ]

    pub on_path : (path : List ℕ) → In path n → has_name (names_at models path) child.name ≡ true
    on_path [] i = absurd i
    on_path (k ∷ path) (inl q) = has_one k (slice_get models k) refl (names_at models path) ∙ or_left (eqb k n) (has_name (names_at models path) child.name) (eq-eqb k n (sym q))
    on_path (k ∷ path) (inr i) = has_one k (slice_get models k) refl (names_at models path) ∙ or_right (eqb k n) (has_name (names_at models path) child.name) (on_path path i)

    pub off_path : (path : List ℕ) → (In path n → ⊥) → has_name (names_at models path) child.name ≡ false
    off_path [] o = refl
    off_path (k ∷ path) o = has_one k (slice_get models k) refl (names_at models path)
        ∙ ap (λ b. b || has_name (names_at models path) child.name) (false_from_ne_true (eqb k n) (λ t. o (inl (sym (eqb-true k n t))))) ∙ off_path path (λ i. o (inr i))

    pub was_walked : (before : List ℕ) → In before n → is_walked (models_at models (reverse before)) child.name ≡ true
    was_walked before i = walked_named (reverse before) child.name ∙ on_path (reverse before) (in_reversed before n i)

    pub not_walked : (before : List ℕ) → (In before n → ⊥) → is_walked (models_at models (reverse before)) child.name ≡ false
    not_walked before o = walked_named (reverse before) child.name ∙ off_path (reverse before) (λ i. o (reversed_in before n i))

    -- the path from the model on
    last_name : (xs : List ℕ) (k : ℕ) (o : Option ModelValue) → slice_get models k ≡ o → names_at models (xs ++ k ∷ []) ≡ names_at models xs ++ with_model_name o []
    last_name xs k o h = names_at-append xs (k ∷ []) ∙ ap (λ p. names_at models xs ++ with_model_name p []) h

    chain_one : (k : ℕ) (o : Option ModelValue) → slice_get models k ≡ o → (xs path : List ℕ) → chain_from child.name (names_at models path) ≡ names_at models xs
        → chain_from child.name (with_model_name o (names_at models path)) ≡ names_at models (if eqb n k then k ∷ [] else xs ++ k ∷ [])
    chain_one k None h xs path e =
        let f : eqb n k ≡ false = false_from_ne_true (eqb n k) (λ t. absent k h (sym (eqb-true n k t))) in
        rw f (e ∙ sym (last_name xs k None h ∙ append-nil (names_at models xs)))
    chain_one k (Some m) h xs path e = elim (same_or_other k m h) [
      | inl p ↦ (let t : eqb n k ≡ true = eq-eqb n k (sym p.1) in rw (p.0, t) (sym (ap (λ o. with_model_name o []) h)))
      | inr p ↦ (let f : eqb n k ≡ false = false_from_ne_true (eqb n k) (λ t. p.1 (sym (eqb-true n k t))) in rw (p.0, f) (ap (λ ns. ns ++ m.name ∷ []) e ∙ sym (last_name xs k (Some m) h)))
    ]

    pub chain_path : (path : List ℕ) → chain_from child.name (names_at models path) ≡ names_at models (from_node n path)
    chain_path [] = refl
    chain_path (k ∷ path) = chain_one k (slice_get models k) refl (from_node n path) path (chain_path path)

-- a line that places a model
module _ (models : List ModelValue) (names : AreOnce (model_names models)) (path : List ℕ) (m : ModelValue) (line : ℕ) (s : SubcktValue) (n : ℕ) (found : IsModelOf models s.model n) where
  abbrev chain : List (List ℕ)
  chain = names_at models path

  abbrev own : SubcktLine
  own = record { line = line; subckt = s }

  name_is : s.model ≡ found.model.name
  name_is = named_is models s.model found.model found.named

  pub recursive_err : (name : List ℕ) (e : FlatErr) → In path n → name ≡ s.model → e ≡ RecursiveModel (names_at models (from_node n path) ++ name ∷ [])
      → IsTold e (line_fault (record { models = models }) chain m own)
  recursive_err name e on same is =
      let whole : names_at models (from_node n path) ≡ chain_from s.model chain = sym (ap (λ x. chain_from x chain) name_is ∙ chain_path models names n found.model found.at path) in
      subst (λ x. IsTold x (line_fault (record { models = models }) chain m own)) (sym (is ∙ ap (λ x. RecursiveModel (x ++ name ∷ [])) whole ∙ ap (λ x. RecursiveModel (chain_from s.model chain ++ x ∷ [])) same))
      (ap (placed_fault chain m own) found.named
      ∙ cond-true (has_name chain s.model) (Some (RecursiveModel (chain_from s.model chain ++ s.model ∷ []))) (formal_fault m own found.model (unknown_formal found.model s.pairs)) (ap (has_name chain) name_is ∙ on_path models names n found.model found.at path on))

  module _ (off : In path n → ⊥) where
    placed_line : line_fault (record { models = models }) chain m own ≡ ports_fault m line s found.model
    placed_line = ap (placed_fault chain m own) found.named
        ∙ cond-false (has_name chain s.model) (Some (RecursiveModel (chain_from s.model chain ++ s.model ∷ []))) (formal_fault m own found.model (unknown_formal found.model s.pairs)) (ap (has_name chain) name_is ∙ off_path models names n found.model found.at path off)

    pub child_err : (e : FlatErr) → ((child : ModelValue) → slice_get models n ≡ Some child → IsTold e (ports_fault m line s child)) → IsTold e (line_fault (record { models = models }) chain m own)
    child_err e h = subst (IsTold e) (sym placed_line) (h found.model found.at)

    pub child_ok : ((child : ModelValue) → slice_get models n ≡ Some child → ports_fault m line s child ≡ None) → IsPlacing models path m own n
    child_ok h = record { child = found; clean = placed_line ∙ h found.model found.at }

-- what the check of a line says of its edge, where no model is being walked
found_number : (models : List ModelValue) (names : AreOnce (model_names models)) (name : List ℕ) (n : ℕ) → IsModelOf models name n → (o : Option ℕ) → Finds models name o → o ≡ Some n
found_number models names name n is None f = absurd (none-some is.model (sym f ∙ is.named))
found_number models names name n is (Some k) f =
    let same : f.model ≡ is.model = same_Some f.model is.model (sym f.named ∙ is.named) in
    ap Some (same_number models k n f.model is.model names f.at is.at (ap (λ (m : ModelValue). m.name) same))

module _ (models : List ModelValue) (path : List ℕ) (m : ModelValue) (l : SubcktLine) (none : path ≡ []) where
  pub placing_edge : AreOnce (model_names models) → (n : ℕ) → IsPlacing models path m l n → Node n ≡ line_edge models m l
  placing_edge names n p = sym (ap (λ o. edge_by o (place_of (model_names models) l.subckt.model)) (ap (λ ns. line_fault (record { models = models }) (names_at models ns) m l) (sym none) ∙ p.clean)
      ∙ ap (edge_by None) (found_number models names l.subckt.model n p.child (place_of (model_names models) l.subckt.model) (finds models l.subckt.model)))
