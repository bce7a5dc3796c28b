-- The inputs of a source circuit by their names: each occurs once, so that there are values for any values of the regular inputs and of the parameters.
use Rattle.cmd_stations.proofs.Common.{◌≡◌, ℕ, ◌+◌, Bool, true, false, cond, List, [], ◌∷◌, ◌++◌, length, map, drop, get_or, bytes_eq, refl, sym, ap, ◌∙◌, subst, arith, if◌then◌else◌, length-map, length-append, map-append, In, map_agree, AreOnce, Param, param_names, regular_names, input_names, Source, width_of}
use Rattle.std.proofs.lemmas.Slice.Eq.{bytes_eq-Decides}

-- the value of a name, where a list has the values of some names
abbrev named_value : List (List ℕ) → List Bool → List ℕ → Bool
named_value [] values name = false
named_value (own ∷ names) [] name = false
named_value (own ∷ names) (value ∷ values) name = if bytes_eq own name then value else named_value names values name

-- the values of the inputs by their names, where the parameters and the regular inputs have these
abbrev pub input_at : Source → List Bool → List Bool → List ℕ → Bool
input_at source params values = named_value (input_names source.netlist.flat source.params.list) (values ++ params)

-- names have the values that they are given
no_match : (a b : List ℕ) → (a ≡ b → ⊥) → (test : Bool) → bytes_eq a b ≡ test → test ≡ false
no_match a b differ false e = refl
no_match a b differ true e = absurd (differ ((bytes_eq-Decides a b).0 e))

named_values : (names : List (List ℕ)) (values : List Bool) → AreOnce names → length values ≡ length names → map (named_value names values) names ≡ values
named_values [] [] once len = refl
named_values (n ∷ ns) (b ∷ bs) once len =
    ap (λ t. cond t b (named_value ns bs n) ∷ map (named_value (n ∷ ns) (b ∷ bs)) ns) ((bytes_eq-Decides n n).1 refl)
    ∙ ap (λ vs. b ∷ vs) (map_agree (named_value (n ∷ ns) (b ∷ bs)) (named_value ns bs) ns later ∙ named_values ns bs once.1 (omega arith))
  where
    later : (m : List ℕ) → In ns m → named_value (n ∷ ns) (b ∷ bs) m ≡ named_value ns bs m
    later m i = ap (λ t. cond t b (named_value ns bs m)) (no_match n m (λ e. once.0 (subst (λ x. In ns x) (sym e) i)) (bytes_eq n m) refl)
named_values names values once len = absurd (omega arith)

-- two lists whose first parts are as long as each other
pub same_parts : {A : Type 0} (xs us ys vs : List A) → length xs ≡ length us → xs ++ ys ≡ us ++ vs → (xs ≡ us) × (ys ≡ vs)
same_parts [] [] ys vs len same = (refl, same)
same_parts (x ∷ xs) (u ∷ us) ys vs len same = grind (arith, x, same_parts xs us ys vs (omega arith) (ap (drop 1) same))
same_parts items o ys vs len same = absurd (omega arith)

-- so the values given for the regular inputs stand at these, and those for the parameters at the parameters
module _ (source : Source) (once : AreOnce (input_names source.netlist.flat source.params.list)) (params values : List Bool) (params_len : length params ≡ length source.params.list) (len : length values ≡ width_of source) where
  abbrev regular : List (List ℕ)
  regular = regular_names source.netlist.flat source.params.list

  abbrev names : List (List ℕ)
  names = param_names source.params.list

  abbrev x : List ℕ → Bool
  x = input_at source params values

  pub inputs_are : map x (input_names source.netlist.flat source.params.list) ≡ values ++ params
  inputs_are = grind (arith, named_values, names, length-append, length-map)

  pub parts_are : (map x regular ≡ values) × (map x names ≡ params)
  parts_are = same_parts (map x regular) values (map x names) params (length-map regular x ∙ sym len) (sym (map-append x regular names) ∙ inputs_are)
