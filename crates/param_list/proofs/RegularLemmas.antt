-- The places of the inputs that aren't parameters, and the inputs as those that are left and the parameters.
use Rattle.param_list.proofs.Common.{◌≡◌, ℕ, ◌+◌, ◌<◌, ◌≤◌, Bool, true, false, not, List, ◌++◌, length, map, Some, refl, sym, ap, ◌∙◌, subst, inl, inr, arith, slice_get, option_map, both_ways, cases_Bool, not-true, not_from_false, length-map, same_Some, slice_get-map, slice_get_within, In, In-get, In-map, In-append, In-left, In-right, In-filter, in_filter, from_map, at_within, AreOnce, has_in, in_has, FlatValue, has_name, AreApart, apart_once, joined_apart, filtered_apart, apart_short, Param, param_names, regular_names, AreParameters, IsSplit, IsFree, AreRegularPlaces, marks_of, off_places}
use Rattle.param_list.proofs.MarkLemmas.{IsOff, off_in, in_off, off_ascending, off_names}

module _ (flat : FlatValue) (params : List Param) (once : AreOnce flat.inputs) (are : AreParameters flat params) where
  abbrev inputs : List (List ℕ)
  inputs = flat.inputs

  abbrev names : List (List ℕ)
  names = param_names params

  abbrev regular : List (List ℕ)
  regular = regular_names flat params

  abbrev marks : List Bool
  marks = marks_of inputs names

  -- the mark of an input
  mark_at : (i : ℕ) (name : List ℕ) → slice_get inputs i ≡ Some name → slice_get marks i ≡ Some (has_name names name)
  mark_at i name at = slice_get-map (has_name names) inputs i ∙ ap (option_map (has_name names)) at

  named : (p : Param) → In params p → has_name names p.name ≡ true
  named p j = in_has names p.name (In-map (λ (q : Param). q.name) params p j)

  -- the parameter of a name
  param_of : (name : List ℕ) → has_name names name ≡ true → (p : Param) × In params p × (name ≡ p.name)
  param_of name t = from_map (λ (q : Param). q.name) params name (has_in names name t)

  -- a mark is off exactly where no parameter stands
  free_at : (i : ℕ) → slice_get marks i ≡ Some false → IsFree params i
  free_at i off p j e =
      let on : slice_get marks i ≡ Some true = subst (λ k. slice_get marks k ≡ Some true) e (mark_at p.input p.name (are.inputs p j) ∙ ap (λ b. Some b) (named p j)) in
      both_ways true (same_Some true false (sym on ∙ off)) refl

  off_at : (i : ℕ) → i < length inputs → IsFree params i → slice_get marks i ≡ Some false
  off_at i l free =
      let x = at_within inputs i l in
      elim (cases_Bool (has_name names x.0)) [
        | inl t ↦ (let r = param_of x.0 t in
            absurd (free r.0 r.1 (apart_once inputs r.0.input i x.0 once (are.inputs r.0 r.1 ∙ ap (λ n. Some n) (sym r.2)) x.1)))
        | inr f ↦ mark_at i x.0 x.1 ∙ ap (λ b. Some b) f
      ]

  zero_more : (k : ℕ) → 0 + k ≡ k
  zero_more k = omega arith

  off_place : (i : ℕ) → In (off_places 0 marks) i → slice_get marks i ≡ Some false
  off_place i j = let o : IsOff 0 marks i = off_in 0 marks i j in subst (λ k. slice_get marks k ≡ Some false) (sym (o.is ∙ zero_more o.place)) o.off

  pub regular_places : AreRegularPlaces flat params (off_places 0 marks)
  regular_places = record {
    ascending = off_ascending 0 marks;
    within = λ i j. (let n : length marks ≡ length inputs = length-map inputs (has_name names) in let l : i < length marks = slice_get_within marks i false (off_place i j) in omega arith);
    free = λ i j. free_at i (off_place i j);
    all = λ i l free. subst (In (off_places 0 marks)) (zero_more i) (in_off 0 marks i (off_at i l free));
  }

  pub names_there : map (slice_get inputs) (off_places 0 marks) ≡ map (λ n. Some n) regular
  names_there = off_names (slice_get inputs) 0 inputs names (λ k. ap (slice_get inputs) (zero_more k))

  pub as_many : length (off_places 0 marks) ≡ length regular
  as_many = sym (length-map (off_places 0 marks) (slice_get inputs)) ∙ ap (λ l. length l) names_there ∙ length-map regular (λ n. Some n)

  -- the inputs as those that are left, and the parameters
  abbrev both : List (List ℕ)
  both = regular ++ names

  abbrev is_left : List ℕ → Bool
  is_left name = not (has_name names name)

  both_apart : AreApart both
  both_apart = joined_apart regular names (filtered_apart is_left inputs once) (are.named).once
      (λ name i j. both_ways (has_name names name) (not-true (has_name names name) (In-filter is_left inputs name i).1) (in_has names name j))

  only_inputs : (name : List ℕ) → In both name → In inputs name
  only_inputs name i = elim (In-append regular names name i) [
    | inl j ↦ (In-filter is_left inputs name j).0
    | inr j ↦ (let r = from_map (λ (q : Param). q.name) params name j in subst (In inputs) (sym r.2) (In-get inputs r.0.input r.0.name (are.inputs r.0 r.1)))
  ]

  all_inputs : (name : List ℕ) → In inputs name → In both name
  all_inputs name i = elim (cases_Bool (has_name names name)) [
    | inl t ↦ In-right regular names name (has_in names name t)
    | inr f ↦ In-left regular names name (in_filter is_left inputs name i (not_from_false (has_name names name) f))
  ]

  pub is_split : IsSplit flat params
  is_split = record {
    once = both_apart;
    count = (let a : length both ≤ length inputs = apart_short both inputs both_apart only_inputs in
        let b : length inputs ≤ length both = apart_short inputs both once all_inputs in omega arith);
    only = only_inputs;
    all = all_inputs;
  }
