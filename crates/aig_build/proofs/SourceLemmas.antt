-- The literals of the inputs as the code gives them: the regular ones in their order, then the parameters in the order of their list.
use Rattle.aig_build.proofs.Common.{◌≡◌, ℕ, zero, suc, ◌+◌, ◌*◌, ◌<◌, ◌≤◌, Bool, true, false, not, List, [], ◌∷◌, length, map, filter, Some, replicate, refl, sym, ap, ◌∙◌, subst, inl, inr, arith, slice_set, slice_get, unwrap_or, option_map, none-some, same_Some, slice_get_within, slice_get-map, In, In-map, In-filter, from_map, place_in, at_within, get_left, set_here, set_other, set_length, same_or, replicate_at, same_list, get_right, Input, FlatValue, has_name, AreApart, joined_apart, filtered_apart, apart_once, Param, param_names, regular_names, AreParameters, Lit, input_names, IsSourceLiteral, an_input, a_latch, NetLitsValue, no_lit, net_lit, marked, index_behind, regular_lits, regular_next, with_param_lits, marks_of, start_nets, length-map, length-replicate, length-append}
use Rattle.std.proofs.lemmas.Bool.{both_ways, cases_Bool}
use Rattle.tl_text.specs.Once.{AreOnce}
use Rattle.tl_text.proofs.NameSetLemmas.{has_in, in_has}
use Rattle.aig_build.proofs.SignalLemmas.{AreSourced}

pub length-marked : (marks : List Bool) (ps : List Param) → length (marked marks ps) ≡ length marks
length-marked marks [] = refl
length-marked marks (p ∷ ps) = length-marked (slice_set marks p.input true) ps ∙ set_length marks p.input true

marked-stays : (marks : List Bool) (ps : List Param) (i : ℕ) → slice_get marks i ≡ Some true → slice_get (marked marks ps) i ≡ Some true
marked-stays marks [] i e = e
marked-stays marks (p ∷ ps) i e = marked-stays (slice_set marks p.input true) ps i (elim (same_or i p.input) as (λ _. slice_get (slice_set marks p.input true) i ≡ Some true) [
  | inl s ↦ subst (λ j. slice_get (slice_set marks p.input true) j ≡ Some true) (sym s) (set_here marks p.input true (subst (λ j. j < length marks) s (slice_get_within marks i true e)))
  | inr o ↦ set_other marks p.input i true o ∙ e
])

marked-yes : (marks : List Bool) (ps : List Param) (p : Param) → In ps p → p.input < length marks → slice_get (marked marks ps) p.input ≡ Some true
marked-yes marks [] p i l = absurd i
marked-yes marks (q ∷ ps) p (inl e) l =
    let same : q.input ≡ p.input = ap (λ (r : Param). r.input) (sym e) in
    marked-stays (slice_set marks q.input true) ps p.input (subst (λ j. slice_get (slice_set marks q.input true) j ≡ Some true) same (set_here marks q.input true (subst (λ j. j < length marks) (sym same) l)))
marked-yes marks (q ∷ ps) p (inr i) l = marked-yes (slice_set marks q.input true) ps p i (subst (λ n. p.input < n) (sym (set_length marks q.input true)) l)

marked-other : (marks : List Bool) (ps : List Param) (i : ℕ) → ((p : Param) → In ps p → p.input ≡ i → ⊥) → slice_get (marked marks ps) i ≡ slice_get marks i
marked-other marks [] i free = refl
marked-other marks (q ∷ ps) i free = marked-other (slice_set marks q.input true) ps i (λ p j. free p (inr j)) ∙ set_other marks q.input i true (λ e. free q (inl refl) (sym e))

-- the literals of regular inputs: the place among the names that pass the test
record HasRank (test : List ℕ → Bool) (names : List (List ℕ)) (next i : ℕ) (name : List ℕ) : Type 0 where
  rank : ℕ
  at : slice_get (filter (λ n. not (test n)) names) rank ≡ Some name
  lit : slice_get (regular_lits next (map test names)) i ≡ Some (record { 0 = 2 * (next + rank) })

pub length-regular : (next : ℕ) (marks : List Bool) → length (regular_lits next marks) ≡ length marks
length-regular next [] = refl
length-regular next (mark ∷ marks) = ap suc (length-regular (index_behind next mark) marks)

regular_rank : (test : List ℕ → Bool) (names : List (List ℕ)) (next i : ℕ) (name : List ℕ) → slice_get names i ≡ Some name → test name ≡ false → HasRank test names next i name
regular_rank test [] next i name e f = absurd (none-some name e)
regular_rank test (n ∷ names) next zero name e f =
    let same : n ≡ name = same_Some n name e in
    let off : test n ≡ false = ap test same ∙ f in
    record {
      rank = 0;
      at = rw off (ap Some same);
      lit = let z : next + 0 ≡ next = omega arith in rw (off, z) refl;
    }
regular_rank test (n ∷ names) next (suc i) name e f = elim (cases_Bool (test n)) as (λ _. HasRank test (n ∷ names) next (suc i) name) [
  | inl t ↦ (let r = regular_rank test names next i name e f in record { rank = r.rank; at = rw t r.at; lit = rw t r.lit })
  | inr u ↦ (let r = regular_rank test names (next + 1) i name e f in
      let m : next + suc r.rank ≡ next + 1 + r.rank = omega arith in
      record { rank = suc r.rank; at = rw u r.at; lit = rw (u, m) r.lit })
]

regular_count : (test : List ℕ → Bool) (names : List (List ℕ)) (next : ℕ) → regular_next next (map test names) ≡ next + length (filter (λ n. not (test n)) names)
regular_count test [] next = omega arith
regular_count test (n ∷ names) next = elim (cases_Bool (test n)) as (λ _. regular_next next (map test (n ∷ names)) ≡ next + length (filter (λ m. not (test m)) (n ∷ names))) [
  | inl t ↦ rw t (regular_count test names next)
  | inr u ↦ (let r : regular_next (next + 1) (map test names) ≡ next + 1 + length (filter (λ m. not (test m)) names) = regular_count test names (next + 1) in
      let m : next + 1 + length (filter (λ m. not (test m)) names) ≡ next + suc (length (filter (λ m. not (test m)) names)) = omega arith in
      rw u (r ∙ m))
]

pub regular_next-le : (next : ℕ) (marks : List Bool) → regular_next next marks ≤ next + length marks
regular_next-le next [] = omega arith
regular_next-le next (true ∷ marks) = let l : regular_next next marks ≤ next + length marks = regular_next-le next marks in omega arith
regular_next-le next (false ∷ marks) = let l : regular_next (next + 1) marks ≤ next + 1 + length marks = regular_next-le (next + 1) marks in omega arith

-- the parameters' literals
param_lits-other : (lits : List Lit) (next : ℕ) (ps : List Param) (i : ℕ) → ((p : Param) → In ps p → p.input ≡ i → ⊥) → slice_get (with_param_lits lits next ps) i ≡ slice_get lits i
param_lits-other lits next [] i free = refl
param_lits-other lits next (q ∷ ps) i free =
    param_lits-other (slice_set lits q.input (record { 0 = 2 * next })) (next + 1) ps i (λ p j. free p (inr j)) ∙ set_other lits q.input i (record { 0 = 2 * next }) (λ e. free q (inl refl) (sym e))

param_lits-at : (lits : List Lit) (next : ℕ) (ps : List Param) (j : ℕ) (p : Param) → AreApart (map (λ (q : Param). q.input) ps) → slice_get ps j ≡ Some p → p.input < length lits
    → slice_get (with_param_lits lits next ps) p.input ≡ Some (record { 0 = 2 * (next + j) })
param_lits-at lits next [] j p apart e l = absurd (none-some p e)
param_lits-at lits next (q ∷ ps) zero p apart e l =
    let same : q ≡ p = same_Some q p e in
    let lit : Lit = record { 0 = 2 * next } in
    let z : next + 0 ≡ next = omega arith in
    rw (← same, z) (param_lits-other (slice_set lits q.input lit) (next + 1) ps q.input (λ r i f. apart.0 (subst (In (map (λ (x : Param). x.input) ps)) f (In-map (λ (x : Param). x.input) ps r i)))
    ∙ set_here lits q.input lit (subst (λ (r : Param). r.input < length lits) (sym same) l))
param_lits-at lits next (q ∷ ps) (suc j) p apart e l =
    let m : next + suc j ≡ next + 1 + j = omega arith in
    rw m (param_lits-at (slice_set lits q.input (record { 0 = 2 * next })) (next + 1) ps j p apart.1 e (subst (λ n. p.input < n) (sym (set_length lits q.input (record { 0 = 2 * next }))) l))

pub length-param_lits : (lits : List Lit) (next : ℕ) (ps : List Param) → length (with_param_lits lits next ps) ≡ length lits
length-param_lits lits next [] = refl
length-param_lits lits next (p ∷ ps) = length-param_lits (slice_set lits p.input (record { 0 = 2 * next })) (next + 1) ps ∙ set_length lits p.input (record { 0 = 2 * next })

module _ (flat : FlatValue) (params : List Param) (once : AreOnce flat.inputs) (are : AreParameters flat params) where
  abbrev is_param : List ℕ → Bool
  is_param name = has_name (param_names params) name

  -- an input is a parameter's exactly where it has a parameter's name
  input_place : (p : Param) → In params p → (i : ℕ) → slice_get flat.inputs i ≡ Some p.name → p.input ≡ i
  input_place p m i e = apart_once flat.inputs p.input i p.name once (are.inputs p m) e

  -- the names of the sources stand once
  pub names_apart : AreApart (input_names flat params)
  names_apart = joined_apart (regular_names flat params) (param_names params) (filtered_apart (λ name. not (is_param name)) flat.inputs once) are.named.once
      (λ name i j. let r = In-filter (λ n. not (is_param n)) flat.inputs name i in
      let t : is_param name ≡ true = in_has (param_names params) name j in
      let b : not true ≡ true = subst (λ b. not b ≡ true) t r.1 in
      absurd (cc))

  inputs_apart : (ps : List Param) → ((p : Param) → In ps p → slice_get flat.inputs p.input ≡ Some p.name) → AreApart (param_names ps) → AreApart (map (λ (q : Param). q.input) ps)
  inputs_apart [] at apart = tt
  inputs_apart (p ∷ ps) at apart = (λ (i : In (map (λ (q : Param). q.input) ps) p.input). apart.0 (clash ps i (λ q j. at q (inr j))), inputs_apart ps (λ q j. at q (inr j)) apart.1)
    where
      clash : (qs : List Param) → In (map (λ (q : Param). q.input) qs) p.input → ((q : Param) → In qs q → slice_get flat.inputs q.input ≡ Some q.name) → In (param_names qs) p.name
      clash [] i places = absurd i
      clash (q ∷ qs) (inl e) places = inl (same_Some p.name q.name (sym (at p (inl refl)) ∙ ap (slice_get flat.inputs) e ∙ places q (inl refl)))
      clash (q ∷ qs) (inr i) places = inr (clash qs i (λ r j. places r (inr j)))

  -- no parameter stands at an input with another name
  off : {i : ℕ} (name : List ℕ) → is_param name ≡ false → slice_get flat.inputs i ≡ Some name → (p : Param) → In params p → p.input ≡ i → ⊥
  off {i} name u e p m q =
      let same : name ≡ p.name = same_Some name p.name (sym e ∙ subst (λ j. slice_get flat.inputs j ≡ Some p.name) q (are.inputs p m)) in
      both_ways (is_param name) u (in_has (param_names params) name (subst (In (param_names params)) (sym same) (In-map (λ (r : Param). r.name) params p m)))

  pub marks_are : marked (replicate (length flat.inputs) false) params ≡ map is_param flat.inputs
  marks_are = same_list (marked none params) (map is_param flat.inputs) (length-marked none params ∙ length-replicate (length flat.inputs) false ∙ sym (length-map flat.inputs is_param))
      (λ i a b here there. same_Some a b (sym here ∙ each i b there))
    where
      none : List Bool
      none = replicate (length flat.inputs) false

      each : (i : ℕ) (b : Bool) → slice_get (map is_param flat.inputs) i ≡ Some b → slice_get (marked none params) i ≡ Some b
      each i b e =
          let l : i < length (map is_param flat.inputs) = slice_get_within (map is_param flat.inputs) i b e in
          let n : length (map is_param flat.inputs) ≡ length flat.inputs = length-map flat.inputs is_param in
          let within : i < length flat.inputs = omega arith in
          let name = at_within flat.inputs i within in
          let same : is_param name.0 ≡ b = same_Some (is_param name.0) b (sym (slice_get-map is_param flat.inputs i ∙ ap (option_map is_param) name.1) ∙ e) in
          elim (cases_Bool (is_param name.0)) [
            | inl t ↦ (let p = from_map (λ (q : Param). q.name) params name.0 (has_in (param_names params) name.0 t) in
                let place : p.0.input ≡ i = input_place p.0 p.1 i (name.1 ∙ ap Some p.2) in
                let few : p.0.input < length none = subst (λ m. p.0.input < m) (sym (length-replicate (length flat.inputs) false)) (subst (λ m. m < length flat.inputs) (sym place) within) in
                subst (λ j. slice_get (marked none params) j ≡ Some true) place (marked-yes none params p.0 p.1 few) ∙ ap Some (sym t ∙ same))
            | inr u ↦ marked-other none params i (λ p m q. off name.0 u name.1 p m q) ∙ replicate_at (length flat.inputs) i false within ∙ ap Some (sym u ∙ same)
          ]

  module _ (marks : List Bool) (marks_eq : marks ≡ map is_param flat.inputs) where
    abbrev lits : List Lit
    lits = with_param_lits (regular_lits 1 marks) (regular_next 1 marks) params

    pub next_is : regular_next 1 marks ≡ 1 + length (regular_names flat params)
    next_is = rw marks_eq (regular_count is_param flat.inputs 1)

    pub sourced : (covers : List Lit) (latches : ℕ) → latches ≡ 1 + length (input_names flat params) → AreSourced flat params (record { inputs = lits; latches = latches; covers = covers })
    sourced covers latches n = record { inputs = λ i l. source i l; latches = λ j. a_latch j refl (omega (arith, n)) }
      where
        nets : NetLitsValue
        nets = record { inputs = lits; latches = latches; covers = covers }

        regular_source : (i : ℕ) (name : List ℕ) → slice_get flat.inputs i ≡ Some name → is_param name ≡ false → IsSourceLiteral flat params (Input i) (net_lit nets (Input i)).0
        regular_source i name e u =
            let r = regular_rank is_param flat.inputs 1 i name e u in
            let at : slice_get lits i ≡ Some (record { 0 = 2 * (1 + r.rank) }) =
            param_lits-other (regular_lits 1 marks) (regular_next 1 marks) params i (λ p m q. off name u e p m q) ∙ ap (λ ms. slice_get (regular_lits 1 ms) i) marks_eq ∙ r.lit in
            an_input i r.rank name refl e (get_left (regular_names flat params) (param_names params) r.rank name r.at) (ap (λ o. (unwrap_or o no_lit).0) at)

        param_source : (i : ℕ) (name : List ℕ) → slice_get flat.inputs i ≡ Some name → i < length flat.inputs → is_param name ≡ true → IsSourceLiteral flat params (Input i) (net_lit nets (Input i)).0
        param_source i name e l t =
            let p = from_map (λ (q : Param). q.name) params name (has_in (param_names params) name t) in
            let place : p.0.input ≡ i = input_place p.0 p.1 i (e ∙ ap Some p.2) in
            let j = place_in params p.0 p.1 in
            let count : length (regular_lits 1 marks) ≡ length flat.inputs = length-regular 1 marks ∙ ap length marks_eq ∙ length-map flat.inputs is_param in
            let few : p.0.input < length (regular_lits 1 marks) = subst (λ m. p.0.input < m) (sym count) (subst (λ m. m < length flat.inputs) (sym place) l) in
            let at : slice_get lits p.0.input ≡ Some (record { 0 = 2 * (regular_next 1 marks + j.0) }) =
            param_lits-at (regular_lits 1 marks) (regular_next 1 marks) params j.0 p.0 (inputs_apart params are.inputs are.named.once) j.1 few in
            let named : slice_get (param_names params) j.0 ≡ Some name = slice_get-map (λ (q : Param). q.name) params j.0 ∙ ap (option_map (λ (q : Param). q.name)) j.1 ∙ ap Some (sym p.2) in
            let lit : (net_lit nets (Input p.0.input)).0 ≡ 2 * (1 + (length (regular_names flat params) + j.0)) =
            ap (λ o. (unwrap_or o no_lit).0) at ∙ (let m : regular_next 1 marks ≡ 1 + length (regular_names flat params) = next_is in omega arith) in
            an_input i (length (regular_names flat params) + j.0) name refl e (get_right (regular_names flat params) (param_names params) j.0 name named) (subst (λ m. (net_lit nets (Input m)).0 ≡ 2 * (1 + (length (regular_names flat params) + j.0))) place lit)

        source : (i : ℕ) → i < length flat.inputs → IsSourceLiteral flat params (Input i) (net_lit nets (Input i)).0
        source i l =
            let name = at_within flat.inputs i l in
            elim (cases_Bool (is_param name.0)) [ inl t ↦ param_source i name.0 name.1 l t | inr u ↦ regular_source i name.0 name.1 u ]

  pub start_next : regular_next 1 (marks_of flat params) ≡ 1 + length (regular_names flat params)
  start_next = next_is (marks_of flat params) marks_are

  pub start_latches : (start_nets flat params).latches ≡ 1 + length (input_names flat params)
  start_latches = omega (arith, start_next, length-append (regular_names flat params) (param_names params), length-map params (λ (q : Param). q.name))

  pub start_sourced : AreSourced flat params (start_nets flat params)
  start_sourced = sourced (marks_of flat params) marks_are (replicate (length flat.covers) no_lit) (start_nets flat params).latches start_latches

  -- there are no more regular inputs than inputs
  pub few_regular : length (regular_names flat params) ≤ length flat.inputs
  few_regular =
      omega (arith, start_next, regular_next-le 1 (marks_of flat params), length-marked (replicate (length flat.inputs) false) params, length-replicate (length flat.inputs) false)
