-- What the refusals of a `.subckt` line say: F1 to F4 of it don't stand, or one does.
use Rattle.blif_flat.proofs.Common.{from_map, In-map, has_in, in_has, ◌≡◌, ℕ, true, false, ◌||◌, List, [], ◌∷◌, Option, Some, None, refl, sym, ap, ◌∙◌, subst, inl, inr, ◌⊎◌, bytes_eq, IsTrue, not, both_ways, cases_Bool, or_cases, and_from, not_from_false, false≢true, bytes_decides, In, none_else, none_both, Bool, cond, ◌++◌, filter, option_map, none-some, OrMemory-map, Connection, ModelValue, model_named, has_name, is_input, is_output, inputs_of, SubcktLine, unknown_formal, is_connected, open_input, input_fault, formal_fault, placed_fault, line_fault, formals, Ports, FlatErr, UnknownFormal, Unconnected, IsTold, with_names, ports_value, or_later, refusal_of, foreign_formal, open_among, ports_fault, LibraryValue, SubcktValue, has_with_names, arith, rules}
use Rattle.blif_flat.proofs.Models.NameSetLemmas.{has_inputs}

-- each formal of a connection is an input or an output
pub formal_is_known : (child : ModelValue) (pairs : List Connection) → unknown_formal child pairs ≡ None → (pair : Connection) → In pairs pair → (is_input child pair.formal || has_name child.outputs pair.formal) ≡ true
formal_is_known child [] e pair i = absurd i
formal_is_known child (p ∷ pairs) e pair (inl q) = grind arith
formal_is_known child (p ∷ pairs) e pair (inr i) = formal_is_known child pairs (none_else (is_input child p.formal || has_name child.outputs p.formal) p.formal (unknown_formal child pairs) e).1 pair i

pub formal_is : (child : ModelValue) (pairs : List Connection) → unknown_formal child pairs ≡ None → (pair : Connection) → In pairs pair → IsTrue (is_input child pair.formal) ⊎ IsTrue (is_output child pair.formal)
formal_is child pairs e pair i = search (rules, cases_Bool, is_input, and_from, has_name, not_from_false, or_cases, formal_is_known, both_ways)

-- each input is connected
pub record Connected (pairs : List Connection) (name : List ℕ) : Type 0 where
  pub pair : Connection
  pub member : In pairs pair
  pub formal : name ≡ pair.formal

connected_is : (pairs : List Connection) (name : List ℕ) → has_name (formals pairs) name ≡ is_connected pairs name
connected_is [] name = refl
connected_is (pair ∷ pairs) name = ap (λ b. bytes_eq name pair.formal || b) (connected_is pairs name)

connected_in : (pairs : List Connection) (name : List ℕ) → is_connected pairs name ≡ true → Connected pairs name
connected_in pairs name t =
    let r = from_map (λ (p : Connection). p.formal) pairs name (has_in (formals pairs) name (connected_is pairs name ∙ t)) in
    record { pair = r.0; member = r.1; formal = r.2 }

in_connected : (pairs : List Connection) (name : List ℕ) (pair : Connection) → In pairs pair → name ≡ pair.formal → is_connected pairs name ≡ true
in_connected pairs name pair i e =
    sym (connected_is pairs name) ∙ in_has (formals pairs) name (subst (In (formals pairs)) (sym e) (In-map (λ (p : Connection). p.formal) pairs pair i))

pub input_connected : (pairs : List Connection) (names : List (List ℕ)) → open_input pairs names ≡ None → (name : List ℕ) → In names name → Connected pairs name
input_connected pairs [] e name i = absurd i
input_connected pairs (n ∷ names) e name (inl q) = subst (Connected pairs) (sym q) (connected_in pairs n (none_else (is_connected pairs n) n (open_input pairs names) e).0)
input_connected pairs (n ∷ names) e name (inr i) = input_connected pairs names (none_else (is_connected pairs n) n (open_input pairs names) e).1 name i

-- and so no refusal stands
pub no_unknown_formal : (child : ModelValue) (pairs : List Connection) → ((pair : Connection) → In pairs pair → (is_input child pair.formal || has_name child.outputs pair.formal) ≡ true) → unknown_formal child pairs ≡ None
no_unknown_formal child [] h = refl
no_unknown_formal child (p ∷ pairs) h = rw (h p (inl refl)) (no_unknown_formal child pairs (λ pair i. h pair (inr i)))

pub no_open_input : (pairs : List Connection) (names : List (List ℕ)) → ((name : List ℕ) → In names name → Connected pairs name) → open_input pairs names ≡ None
no_open_input pairs [] h = refl
no_open_input pairs (n ∷ names) h =
    let c = h n (inl refl) in
    rw (in_connected pairs n c.pair c.member c.formal) (no_open_input pairs names (λ name i. h name (inr i)))

-- a line without F1 to F4, where the models of the chain are being walked
pub record IsPlaced (library : LibraryValue) (l : SubcktLine) : Type 0 where
  pub child : ModelValue
  pub named : model_named library.models l.subckt.model ≡ Some child
  pub formals : unknown_formal child l.subckt.pairs ≡ None
  pub inputs : open_input l.subckt.pairs (inputs_of child) ≡ None

pub record IsFree (library : LibraryValue) (chain : List (List ℕ)) (l : SubcktLine) : Type 0 where
  pub placed : IsPlaced library l
  pub off : has_name chain l.subckt.model ≡ false

no_input_fault : (m : ModelValue) (line : ℕ) (o : Option (List ℕ)) → input_fault m line o ≡ None → o ≡ None
no_input_fault m line None e = refl
no_input_fault m line (Some name) e = cc

no_formal_fault : (m : ModelValue) (l : SubcktLine) (child : ModelValue) (o : Option (List ℕ)) → formal_fault m l child o ≡ None → (o ≡ None) × (open_input l.subckt.pairs (inputs_of child) ≡ None)
no_formal_fault m l child None e = (refl, no_input_fault m l.line (open_input l.subckt.pairs (inputs_of child)) e)
no_formal_fault m l child (Some name) e = absurd (cc)

no_placed_fault : (library : LibraryValue) (chain : List (List ℕ)) (m : ModelValue) (l : SubcktLine) (o : Option ModelValue) → model_named library.models l.subckt.model ≡ o → placed_fault chain m l o ≡ None → IsFree library chain l
no_placed_fault library chain m l None n e = absurd (cc)
no_placed_fault library chain m l (Some child) n e = grind arith

pub free_line : (library : LibraryValue) (chain : List (List ℕ)) (m : ModelValue) (l : SubcktLine) → line_fault library chain m l ≡ None → IsFree library chain l
free_line library chain m l e = no_placed_fault library chain m l (model_named library.models l.subckt.model) refl e

-- and the other way
pub no_line_fault : (library : LibraryValue) (chain : List (List ℕ)) (m : ModelValue) (l : SubcktLine) → IsFree library chain l → line_fault library chain m l ≡ None
no_line_fault library chain m l f = rw (f.placed.named, f.off, f.placed.formals, f.placed.inputs) refl

-- The faults of a line, found in the order of the definition.
pub foreign_is : (child : ModelValue) (pairs : List Connection) → foreign_formal (ports_value child) pairs ≡ unknown_formal child pairs
foreign_is child [] = refl
foreign_is child (pair ∷ pairs) = grind (arith, cond, has_name, foreign_formal, ports_value, has_inputs, is_input, foreign_is child pairs)

open_is : (pairs : List Connection) (names : List (List ℕ)) → open_among (with_names [] (formals pairs)) names ≡ open_input pairs names
open_is pairs [] = refl
open_is pairs (name ∷ names) = grind (arith, cond, open_among, with_names, formals, has_with_names, connected_is, is_connected, open_is pairs names)

-- the first of two lists in which something is found
or_cond : (b : Bool) (x y : Option (List ℕ)) (name : List ℕ) → cond b (or_later x y) (Some name) ≡ or_later (cond b x (Some name)) y
or_cond true x y name = refl
or_cond false x y name = refl

open_both : (pairs : List Connection) (xs ys : List (List ℕ)) → open_input pairs (xs ++ ys) ≡ or_later (open_input pairs xs) (open_input pairs ys)
open_both pairs [] ys = refl
open_both pairs (x ∷ xs) ys = ap (λ o. cond (is_connected pairs x) o (Some x)) (open_both pairs xs ys) ∙ or_cond (is_connected pairs x) (open_input pairs xs) (open_input pairs ys) x

-- a name of a list in which nothing is open is connected
none_open : (pairs : List Connection) (xs : List (List ℕ)) (name : List ℕ) → open_input pairs xs ≡ None → has_name xs name ≡ true → is_connected pairs name ≡ true
none_open pairs [] name h a = absurd (false≢true a)
none_open pairs (x ∷ xs) name h a =
    let p = none_else (is_connected pairs x) x (open_input pairs xs) h in
    elim (cases_Bool (bytes_eq name x)) [
      | inl t ↦ ap (is_connected pairs) ((bytes_decides name x).0 t) ∙ p.0
      | inr f ↦ none_open pairs xs name p.1 (ap (λ b. b || has_name xs name) (sym f) ∙ a)
    ]

-- the clocks that aren't among the inputs
open_filtered : (pairs : List Connection) (xs ys : List (List ℕ)) → open_input pairs xs ≡ None → open_input pairs (filter (λ y. not (has_name xs y)) ys) ≡ open_input pairs ys
open_filtered pairs xs [] h = refl
open_filtered pairs xs (y ∷ ys) h = search (rules, cases_Bool, has_name, none_open, cond, is_connected, open_filtered pairs xs ys h)

-- the first open input of a child: of its `.inputs`, else of its `.clock`
pub open_first : (child : ModelValue) (pairs : List Connection) (name : List ℕ) → open_input pairs child.inputs ≡ Some name → open_input pairs (inputs_of child) ≡ Some name
open_first child pairs name h = open_both pairs child.inputs (filter (λ y. not (has_name child.inputs y)) child.clocks) ∙ ap (λ o. or_later o (open_input pairs (filter (λ y. not (has_name child.inputs y)) child.clocks))) h

pub open_second : (child : ModelValue) (pairs : List Connection) → open_input pairs child.inputs ≡ None → open_input pairs (inputs_of child) ≡ open_input pairs child.clocks
open_second child pairs h =
    open_both pairs child.inputs (filter (λ y. not (has_name child.inputs y)) child.clocks) ∙ ap (λ o. or_later o (open_input pairs (filter (λ y. not (has_name child.inputs y)) child.clocks))) h
    ∙ open_filtered pairs child.inputs child.clocks h

-- the answered fault
none_fault : (e : FlatErr) (fault : Option FlatErr) → IsTold e None → IsTold e fault
none_fault e fault h = OrMemory-map refusal_of (λ r. None ≡ Some r) (λ r. fault ≡ Some r) e (λ r q. absurd (none-some r q)) h

formal_faults : (m : ModelValue) (line : ℕ) (s : SubcktValue) (child : ModelValue) (e : FlatErr) (o : Option (List ℕ)) → IsTold e (option_map (λ n. UnknownFormal m.name line n) o)
    → IsTold e (formal_fault m (record { line = line; subckt = s }) child o)
formal_faults m line s child e (Some name) h = h
formal_faults m line s child e None h = none_fault e (formal_fault m (record { line = line; subckt = s }) child None) h

input_faults : (m : ModelValue) (line : ℕ) (e : FlatErr) (o : Option (List ℕ)) → IsTold e (option_map (λ n. Unconnected m.name line n) o) → IsTold e (input_fault m line o)
input_faults m line e o h = h

-- what the check of a line has read
pub record IsRead (m : ModelValue) (s : SubcktValue) (child : ModelValue) (ports : Ports) (name : List ℕ) (pairs : List Connection) : Type 0 where
  pub ports_are : ports ≡ ports_value child
  pub name_is : name ≡ m.name
  pub pairs_are : pairs ≡ s.pairs

foreign_read : (m : ModelValue) (s : SubcktValue) (child : ModelValue) (ports : Ports) (name : List ℕ) (pairs : List Connection) → IsRead m s child ports name pairs → foreign_formal ports pairs ≡ unknown_formal child s.pairs
foreign_read m s child ports name pairs r = ap (λ p. foreign_formal p pairs) r.ports_are ∙ ap (foreign_formal (ports_value child)) r.pairs_are ∙ foreign_is child s.pairs

pub formals_err : (m : ModelValue) (line : ℕ) (s : SubcktValue) (child : ModelValue) (ports : Ports) (name : List ℕ) (pairs : List Connection) (e : FlatErr) → IsRead m s child ports name pairs
    → IsTold e (option_map (λ n. UnknownFormal name line n) (foreign_formal ports pairs)) → IsTold e (ports_fault m line s child)
formals_err m line s child ports name pairs e r h = grind (arith, formal_faults, unknown_formal, option_map, foreign_read, foreign_formal)

formals_ok : (m : ModelValue) (line : ℕ) (s : SubcktValue) (child : ModelValue) (ports : Ports) (name : List ℕ) (pairs : List Connection) → IsRead m s child ports name pairs → foreign_formal ports pairs ≡ None
    → ports_fault m line s child ≡ input_fault m line (open_input s.pairs (inputs_of child))
formals_ok m line s child ports name pairs r h = ap (formal_fault m (record { line = line; subckt = s }) child) (sym (foreign_read m s child ports name pairs r) ∙ h)

open_read : (s : SubcktValue) (pairs : List Connection) (index names mine : List (List ℕ)) → pairs ≡ s.pairs → index ≡ with_names [] (formals pairs) → names ≡ mine → open_among index names ≡ open_input s.pairs mine
open_read s pairs index names mine p i n = grind (arith, open_among, with_names, formals, open_is)

first_fault : (m : ModelValue) (line : ℕ) (s : SubcktValue) (child : ModelValue) (e : FlatErr) (o : Option (List ℕ)) → open_input s.pairs child.inputs ≡ o → IsTold e (option_map (λ n. Unconnected m.name line n) o)
    → IsTold e (input_fault m line (open_input s.pairs (inputs_of child)))
first_fault m line s child e (Some name) q h = subst (λ x. IsTold e (input_fault m line x)) (sym (open_first child s.pairs name q)) h
first_fault m line s child e None q h = none_fault e (input_fault m line (open_input s.pairs (inputs_of child))) h

unconnected_read : (line : ℕ) (e : FlatErr) (a b : List ℕ) (x y : Option (List ℕ)) → a ≡ b → x ≡ y → IsTold e (option_map (λ n. Unconnected a line n) x) → IsTold e (option_map (λ n. Unconnected b line n) y)
unconnected_read line e a b x y p q h = subst (λ o. IsTold e (option_map (λ n. Unconnected b line n) o)) q (subst (λ k. IsTold e (option_map (λ n. Unconnected k line n) x)) p h)

pub inputs_err : (m : ModelValue) (line : ℕ) (s : SubcktValue) (child : ModelValue) (ports : Ports) (name : List ℕ) (pairs pairs' : List Connection) (index names : List (List ℕ)) (e : FlatErr) → IsRead m s child ports name pairs
    → foreign_formal ports pairs ≡ None → pairs' ≡ s.pairs → index ≡ with_names [] (formals pairs') → names ≡ child.inputs
    → IsTold e (option_map (λ n. Unconnected name line n) (open_among index names)) → IsTold e (ports_fault m line s child)
inputs_err m line s child ports name pairs pairs' index names e r absent p i n h = grind (arith, formals_ok, first_fault, open_input, unconnected_read, open_among, open_read)

pub clocks_err : (m : ModelValue) (line : ℕ) (s : SubcktValue) (child : ModelValue) (ports : Ports) (name : List ℕ) (pairs pairs' : List Connection) (index names clocks : List (List ℕ)) (e : FlatErr) → IsRead m s child ports name pairs
    → foreign_formal ports pairs ≡ None → pairs' ≡ s.pairs → index ≡ with_names [] (formals pairs') → names ≡ child.inputs → open_among index names ≡ None → clocks ≡ child.clocks
    → IsTold e (option_map (λ n. Unconnected name line n) (open_among index clocks)) → IsTold e (ports_fault m line s child)
clocks_err m line s child ports name pairs pairs' index names clocks e r absent p i n none k h = grind (arith, formals_ok, input_fault, open_second, open_read, input_faults, open_input, unconnected_read, open_among)

pub line_ok : (m : ModelValue) (line : ℕ) (s : SubcktValue) (child : ModelValue) (ports : Ports) (name : List ℕ) (pairs pairs' : List Connection) (index names clocks : List (List ℕ)) → IsRead m s child ports name pairs
    → foreign_formal ports pairs ≡ None → pairs' ≡ s.pairs → index ≡ with_names [] (formals pairs') → names ≡ child.inputs → open_among index names ≡ None → clocks ≡ child.clocks → open_among index clocks ≡ None
    → ports_fault m line s child ≡ None
line_ok m line s child ports name pairs pairs' index names clocks r absent p i n none k none' = grind (arith, formals_ok, input_fault, open_second, open_read)
