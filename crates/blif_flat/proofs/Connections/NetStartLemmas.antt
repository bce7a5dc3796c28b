-- The slots of the instances one behind the other: each name of each instance has its own, and they are as many as the instances' names.
use Rattle.blif_flat.proofs.Common.{◌≡◌, ℕ, zero, suc, ◌+◌, ◌<◌, ◌≤◌, true, false, List, [], ◌∷◌, map, replicate, length, Option, Some, None, is_some, refl, sym, ap, ◌∙◌, subst, arith, slice_get, option_map, option_and_then, both_ways, length-replicate, none-some, same_Some, slice_get-map, slice_get_within, at_within, place_of, ModelValue, Path, model_at, has_name, FlatNet, Instance, Start, AreInstances, IsLight, paths_of, NetsValue, name_place, slot_number, slot_at, IsNets, HasSlots, AreEmptyNets, distinct_names, count_in, name_count, starts_from, slot_count, most_weight, LibraryValue, name_place_within, place_is, place_some, has_with_names, in_has, all_names}
use Rattle.blif_flat.proofs.Hierarchy.InstanceRowLemmas.{AreModelsOf, models_rest, models_of}
use Rattle.blif_flat.proofs.Hierarchy.InstanceWeightLemmas.{held, held_by, light_held}
use Rattle.blif_flat.proofs.Models.ModelNameLemmas.{distinct_few}

-- a slot by the names of its model and the place of its name among them
record IsSlotOf (names : List (List (List ℕ))) (s : Start) (name : List ℕ) (k : ℕ) : Type 0 where
  own : List (List ℕ)
  place : ℕ
  there : slice_get names s.model ≡ Some own
  at : place_of own name ≡ Some place
  is : s.first + place ≡ k

slot_at_place : (names : List (List (List ℕ))) (s : Start) (name : List ℕ) (k : ℕ) (own : List (List ℕ)) (p : Option ℕ) → slice_get names s.model ≡ Some own → place_of own name ≡ p → option_map (λ (q : ℕ). s.first + q) p ≡ Some k → IsSlotOf names s name k
slot_at_place names s name k own None there at e = absurd (none-some k e)
slot_at_place names s name k own (Some p) there at e = record { own = own; place = p; there = there; at = at; is = same_Some (s.first + p) k e }

slot_in_names : (names : List (List (List ℕ))) (s : Start) (name : List ℕ) (k : ℕ) (o : Option (List (List ℕ))) → slice_get names s.model ≡ o
    → option_map (λ (q : ℕ). s.first + q) (option_and_then (λ (ns : List (List ℕ)). place_of ns name) o) ≡ Some k → IsSlotOf names s name k
slot_in_names names s name k None there e = absurd (none-some k e)
slot_in_names names s name k (Some own) there e = slot_at_place names s name k own (place_of own name) there refl e

slot_parts : (names : List (List (List ℕ))) (s : Start) (name : List ℕ) (k : ℕ) → name_place names s name ≡ Some k → IsSlotOf names s name k
slot_parts names s name k e = slot_in_names names s name k (slice_get names s.model) refl e

-- it is among the slots of its instance
slot_from : (names : List (List (List ℕ))) (s : Start) (name : List ℕ) (k : ℕ) → IsSlotOf names s name k → s.first ≤ k
slot_from names s name k h = let e : s.first + h.place ≡ k = h.is in omega arith

slot_below : (names : List (List (List ℕ))) (s : Start) (name : List ℕ) (k : ℕ) → IsSlotOf names s name k → k < s.first + name_count names s.model
slot_below names s name k h = omega (arith, ap count_in h.there, name_place_within h.own name h.place h.at)

-- and there it has one name
slot_name : (names : List (List (List ℕ))) (s : Start) (name other : List ℕ) (k : ℕ) → IsSlotOf names s name k → IsSlotOf names s other k → name ≡ other
slot_name names s name other k h g =
    let twin : h.own ≡ g.own = same_Some h.own g.own (sym h.there ∙ g.there) in
    let place : h.place ≡ g.place = omega arith in
    same_Some name other (sym (place_is h.own name h.place h.at) ∙ ap (λ l. slice_get l h.place) twin ∙ ap (slice_get g.own) place ∙ place_is g.own other g.place g.at)

mapped_none : (first : ℕ) (o : Option ℕ) → option_map (λ (p : ℕ). first + p) o ≡ None → is_some o ≡ true → ⊥
mapped_none first None e t = both_ways false refl t
mapped_none first (Some p) e t = none-some (first + p) (sym e)

module _ (names : List (List (List ℕ))) where
  abbrev slot_in : List Start → ℕ → List ℕ → Option ℕ
  slot_in starts i name = option_and_then (λ (s : Start). name_place names s name) (slice_get starts i)

  -- the slots of the instances from a first one on
  slots_from : (instances : List Instance) (first i : ℕ) (name : List ℕ) (k : ℕ) → slot_in (starts_from names first instances) i name ≡ Some k → first ≤ k
  slots_from [] first i name k e = absurd (none-some k e)
  slots_from (row ∷ instances) first zero name k e = slot_from names (record { model = row.model; first = first }) name k (slot_parts names (record { model = row.model; first = first }) name k e)
  slots_from (row ∷ instances) first (suc i) name k e = let h : first + name_count names row.model ≤ k = slots_from instances (first + name_count names row.model) i name k e in omega arith

  slots_below : (instances : List Instance) (first i : ℕ) (name : List ℕ) (k : ℕ) → slot_in (starts_from names first instances) i name ≡ Some k → k < first + slot_count names instances
  slots_below [] first i name k e = absurd (none-some k e)
  slots_below (row ∷ instances) first zero name k e = grind arith
  slots_below (row ∷ instances) first (suc i) name k e = let h : k < (first + name_count names row.model) + slot_count names instances = slots_below instances (first + name_count names row.model) i name k e in omega arith

  -- each name of each row has its own slot
  slots_apart : (instances : List Instance) (first i j : ℕ) (name other : List ℕ) (k : ℕ) → slot_in (starts_from names first instances) i name ≡ Some k → slot_in (starts_from names first instances) j other ≡ Some k → (i ≡ j) × (name ≡ other)
  slots_apart [] first i j name other k e f = absurd (none-some k e)
  slots_apart (row ∷ instances) first zero zero name other k e f =
      let s : Start = record { model = row.model; first = first } in
      (refl, slot_name names s name other k (slot_parts names s name k e) (slot_parts names s other k f))
  slots_apart (row ∷ instances) first zero (suc j) name other k e f =
      let s : Start = record { model = row.model; first = first } in
      absurd (omega (arith, slot_below names s name k (slot_parts names s name k e), slots_from instances (first + name_count names row.model) j other k f))
  slots_apart (row ∷ instances) first (suc i) zero name other k e f =
      let s : Start = record { model = row.model; first = first } in
      absurd (omega (arith, slot_below names s other k (slot_parts names s other k f), slots_from instances (first + name_count names row.model) i name k e))
  slots_apart (row ∷ instances) first (suc i) (suc j) name other k e f =
      let r = slots_apart instances (first + name_count names row.model) i j name other k e f in (ap suc r.0, r.1)

  -- a name of a row's model has one
  slot_there : (instances : List Instance) (first i : ℕ) (row : Instance) (own : List (List ℕ)) (name : List ℕ) → slice_get instances i ≡ Some row → slice_get names row.model ≡ Some own → has_name own name ≡ true
      → slot_in (starts_from names first instances) i name ≡ None → ⊥
  slot_there [] first i row own name e there has none = none-some row e
  slot_there (r ∷ instances) first zero row own name e there has none =
      let own_at : slice_get names r.model ≡ Some own = ap (λ (x : Instance). slice_get names x.model) (same_Some r row e) ∙ there in
      mapped_none first (place_of own name) (sym (ap (λ o. option_map (λ (p : ℕ). first + p) (option_and_then (λ (ns : List (List ℕ)). place_of ns name) o)) own_at) ∙ none) (place_some own name ∙ has)
  slot_there (r ∷ instances) first (suc i) row own name e there has none = slot_there instances (first + name_count names r.model) i row own name e there has none

-- slots without nets
none_at : (n k : ℕ) → option_and_then (λ (o : Option FlatNet). o) (slice_get (replicate n None) k) ≡ None
none_at (suc n) (suc k) = none_at n k
none_at n k = refl

no_net : (n : ℕ) (o : Option ℕ) → slot_at (replicate n None) o ≡ None
no_net n None = refl
no_net n (Some k) = none_at n k

-- the slots are few
held_names : (o : Option ModelValue) → count_in (option_map distinct_names o) ≤ held o
held_names None = omega arith
held_names (Some m) = distinct_few m

module _ (library : LibraryValue) where
  abbrev all_distinct : List (List (List ℕ))
  all_distinct = map distinct_names library.models

  held_slots : (instances : List Instance) (paths : List Path) → AreModelsOf library instances paths → slot_count all_distinct instances ≤ held_by library paths
  held_slots [] paths are = omega arith
  held_slots (row ∷ instances) [] are = let n = are.count in absurd (omega arith)
  held_slots (row ∷ instances) (path ∷ paths) are =
      let a : name_count all_distinct row.model ≡ count_in (option_map distinct_names (model_at library path)) =
      ap count_in (slice_get-map distinct_names library.models row.model) ∙ ap (λ o. count_in (option_map distinct_names o)) (are.each 0 row path refl refl) in
      omega (arith, held_names (model_at library path), held_slots instances paths (models_rest library row instances path paths are))

  module _ (light : IsLight library) (instances : List Instance) (are : AreInstances library instances) where
    pub few_slots : slot_count all_distinct instances ≤ most_weight
    few_slots =
        omega (arith, held_slots instances (paths_of instances) (models_of library instances are), light_held library light are.main (paths_of instances) are.first are.order)

    abbrev made_nets : NetsValue
    made_nets = record { names = all_distinct; starts = starts_from all_distinct 0 instances; slots = replicate (slot_count all_distinct instances) None }

    slots_long : length made_nets.slots ≡ slot_count all_distinct instances
    slots_long = length-replicate (slot_count all_distinct instances) None

    are_nets : IsNets made_nets
    are_nets = record {
      few = let a : length made_nets.slots ≡ slot_count all_distinct instances = slots_long in let b : slot_count all_distinct instances ≤ most_weight = few_slots in omega arith;
      within = λ i name k e. omega (arith, slots_long, slots_below all_distinct instances 0 i name k e);
      apart = λ i j name other k e f. slots_apart all_distinct instances 0 i j name other k e f;
    }

    have_slots : HasSlots library (paths_of instances) made_nets
    have_slots = record {
      each = λ i path m name e at among none.
          let models : AreModelsOf library instances (paths_of instances) = models_of library instances are in
          let row = at_within instances i (let n : length instances ≡ length (paths_of instances) = models.count in let h : i < length (paths_of instances) = slice_get_within (paths_of instances) i path e in omega arith) in
          let own : slice_get all_distinct row.0.model ≡ Some (distinct_names m) = slice_get-map distinct_names library.models row.0.model ∙ ap (option_map distinct_names) (models.each i row.0 path row.1 e ∙ at) in
          slot_there all_distinct instances 0 i row.0 (distinct_names m) name row.1 own (has_with_names [] (all_names m) name ∙ in_has (all_names m) name among) none;
    }

    pub nets_made : (names : List (List (List ℕ))) (starts : List Start) (slots : List (Option FlatNet)) (count : ℕ) → names ≡ all_distinct → starts ≡ starts_from names 0 instances → count ≡ slot_count names instances → slots ≡ replicate count None
        → AreEmptyNets library (paths_of instances) (record { names = names; starts = starts; slots = slots })
    nets_made names starts slots count a b c d =
        let made : record { names = names; starts = starts; slots = slots } ≡ made_nets = (
        ap (λ (ns : List (List (List ℕ))). record { names = ns; starts = starts; slots = slots }) a
        ∙ ap (λ (ss : List Start). record { names = all_distinct; starts = ss; slots = slots }) (b ∙ ap (λ ns. starts_from ns 0 instances) a)
        ∙ ap (λ (os : List (Option FlatNet)). record { names = all_distinct; starts = starts_from all_distinct 0 instances; slots = os }) (d ∙ ap (λ n. replicate n None) (c ∙ ap (λ ns. slot_count ns instances) a))) in
        subst (AreEmptyNets library (paths_of instances)) (sym made) (record { nets = are_nets; slots = have_slots; empty = λ i name. no_net (slot_count all_distinct instances) (slot_number made_nets i name) })
