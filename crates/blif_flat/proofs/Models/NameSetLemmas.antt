-- The inputs, the ports and the models of a library, found by names of which none stands twice.
use Rattle.blif_flat.proofs.Common.{◌≡◌, ℕ, suc, ◌+◌, ◌<◌, ◌≤◌, Bool, true, false, not, ◌||◌, ltb, List, [], ◌∷◌, length, drop, filter, bytes_eq, Some, None, refl, sym, ap, ◌∙◌, subst, inl, inr, arith, slice_get, ltb-true, cases_Bool, cond-true, cond-false, both_ways, ltb-false, length-map, slice_get_past, drop_past, at_within, list_any-append, place_of, ModelValue, input_ports, output_ports, clock_ports, has_name, is_input, inputs_of, model_named, IsWellFormedModel, AreOnce, with_names, ports_value, model_names, Finds, position_or_len, rules}
pub use Rattle.tl_text.proofs.NameSetLemmas.{no_match, new_names, more_names}

-- the inputs of a model
filtered : (a cs : List (List ℕ)) (x : List ℕ) → has_name a x ≡ false → has_name (filter (λ y. not (has_name a y)) cs) x ≡ has_name cs x
filtered a [] x h = refl
filtered a (c ∷ cs) x h = search (rules, cases_Bool, has_name, no_match, both_ways, bytes_eq, filtered a cs x h)

or_either : (a b c : Bool) → (a ≡ false → b ≡ c) → (a || b) ≡ (a || c)
or_either true b c h = refl
or_either false b c h = h refl

pub has_inputs : (m : ModelValue) (x : List ℕ) → has_name (inputs_of m) x ≡ is_input m x
has_inputs m x = list_any-append (bytes_eq x) m.inputs (filter (λ y. not (has_name m.inputs y)) m.clocks)
    ∙ or_either (has_name m.inputs x) (has_name (filter (λ y. not (has_name m.inputs y)) m.clocks) x) (has_name m.clocks x) (filtered m.inputs m.clocks x)

pub made_ports : (m : ModelValue) → IsWellFormedModel m → record { inputs = with_names (with_names [] m.inputs) m.clocks; outputs = with_names [] m.outputs } ≡ ports_value m
made_ports m form =
    let i : with_names (with_names [] m.inputs) m.clocks ≡ inputs_of m = ap (λ i. with_names i m.clocks) (new_names m.inputs (form.ports input_ports)) ∙ more_names m.inputs m.clocks (form.ports clock_ports) in
    let o : with_names [] m.outputs ≡ m.outputs = new_names m.outputs (form.ports output_ports) in cc

-- the model of a name
next_at : {A : Type 0} (x : A) (xs : List A) (i : ℕ) → slice_get xs i ≡ slice_get (x ∷ xs) (1 + i)
next_at x xs i = let e : suc i ≡ 1 + i = omega arith in subst (λ j. slice_get xs i ≡ slice_get (x ∷ xs) j) e refl

named_at : (ms : List ModelValue) (name : List ℕ) → model_named ms name ≡ slice_get ms (position_or_len (bytes_eq name) (model_names ms))
named_at [] name = refl
named_at (m ∷ ms) name = search (rules, cases_Bool, bytes_eq, next_at, model_names, named_at ms name)

pub finds : (ms : List ModelValue) (name : List ℕ) → Finds ms name (place_of (model_names ms) name)
finds ms name =
    let p : ℕ = position_or_len (bytes_eq name) (model_names ms) in
    let e : length (model_names ms) ≡ length ms = length-map ms (λ m. m.name) in
    elim (cases_Bool (ltb p (length (model_names ms)))) [
      | inl t ↦ (let h : p < length (model_names ms) = ltb-true p (length (model_names ms)) t in
          let w = at_within ms p (omega arith) in
          subst (Finds ms name) (sym (cond-true (ltb p (length (model_names ms))) (Some p) None t)) (record { model = w.0; at = w.1; named = named_at ms name ∙ w.1 }))
      | inr f ↦ (let h : length (model_names ms) ≤ p = ltb-false p (length (model_names ms)) f in
          subst (Finds ms name) (sym (cond-false (ltb p (length (model_names ms))) (Some p) None f)) (named_at ms name ∙ slice_get_past ms p (omega arith)))
    ]

pub few_model_names : (names : List (List ℕ)) (models : List ModelValue) (n : ℕ) → names ≡ with_names [] (model_names models) → AreOnce (model_names models) → length models < n → length names < n
few_model_names names models n e once few = grind (arith, model_names, length-map, new_names)

pub ports_of_parts : (m : ModelValue) → IsWellFormedModel m → (inputs both outputs given clocks given' : List (List ℕ))
    → inputs ≡ with_names [] given → both ≡ with_names inputs clocks → outputs ≡ with_names [] given' → given ≡ m.inputs → clocks ≡ m.clocks → given' ≡ m.outputs
    → record { inputs = both; outputs = outputs } ≡ ports_value m
ports_of_parts m form inputs both outputs given clocks given' b d f g h i = grind (arith, with_names, made_ports)

pub all_names : (names all : List (List ℕ)) (models : List ModelValue) (i : ℕ) → with_names names (model_names (drop i models)) ≡ all → length models ≤ i → names ≡ all
all_names names all models i e h = ap (λ ms. with_names names (model_names ms)) (sym (drop_past models i h)) ∙ e
