-- A text is one list of parameters or has one refusal, and not both. Refusals of lines by their cases ask of the clock nets only which names are among them.
use Rattle.param_list.proofs.Common.{◌≡◌, ℕ, Bool, List, Some, sym, ap, ◌∙◌, same_Some, apart_once, place_in, same_list, WordsLine, AreOnce, text_settled, FlatValue, Param, par_err, AreNamed, AreParameters, Entry, refusal_at, IsFirstRefusal, IsParamOf, AreParamsOf, HasOneReading, ◌||◌, ◌++◌, Option, None, bytes_eq, refl, slice_get, take, option_and_then, list_any-append, has_name, ParErr, entry_of, names_said, entry_refusal, line_refusal, ◌<◌, ◌≤◌, true, false, not, ltb, leb, length, or_parts, or_left, or_from, ltb-false, leb-false, le-ltb, lt-leb, Parameters, NotInput, IsClock, Repeated}
use Rattle.list_laws.proofs.TwoLists.{item_there}
use Rattle.std.proofs.Common.{zero, suc, arith, subst, [], ◌∷◌, inl, inr, ◌⊎◌}
use Rattle.std.proofs.lemmas.Bool.{false≢true}
use Rattle.std.proofs.lemmas.Option.{none-some}
use Rattle.std.proofs.lemmas.Option.{slice_get_past}
use Rattle.tl_fault.specs.Settled.{IsSettled, HasAnswer, has_value, has_fault}
use Rattle.tl_text.proofs.FirstLemmas.{one_first, none_first, first_or_none}
use Rattle.tl_text.proofs.NameSetLemmas.{has_in}
use Rattle.param_list.specs.declared.par_err.ParErr.TheVariants.{Malformed}
use Rattle.list_laws.proofs.Choice.{none_both}

abbrev param : List ℕ → ℕ → Bool → Param
param name input init = record { name = name; input = input; init = init }

-- a line has one parameter at most
same_param : (inputs : List (List ℕ)) → AreOnce inputs → (line : WordsLine) (p q : Param) → IsParamOf inputs line p → IsParamOf inputs line q → p ≡ q
same_param inputs once line p q a b =
    let e = same_Some _ _ (sym a.says ∙ b.says) in
    let names : p.name ≡ q.name = ap (λ (x : Entry). x.name) e in
    let inits : p.init ≡ q.init = ap (λ (x : Entry). x.init) e in
    let places : p.input ≡ q.input = apart_once inputs p.input q.input q.name once (a.input ∙ ap (λ n. Some n) names) b.input in
    ap (λ n. param n p.input p.init) names ∙ ap (λ i. param q.name i p.init) places ∙ ap (λ v. param q.name q.input v) inits

one_list : (inputs clocks : List (List ℕ)) → AreOnce inputs → (lines : List WordsLine) (params others : List Param) → AreParamsOf inputs clocks lines params → AreParamsOf inputs clocks lines others → params ≡ others
one_list inputs clocks once lines params others a b = same_list params others (a.count ∙ sym b.count) (λ i p q e f.
    let l = item_there params lines i p a.count e in
    same_param inputs once l.0 p q (a.each i l.0 p l.1 e) (b.each i l.0 q l.1 f))

-- an element for each of a list, one by one
record AreEach {A B : Type 0} (Is : A → B → Type 0) (xs : List A) : Type 0 where
  items : List B
  count : length items ≡ length xs
  each : (i : ℕ) (x : A) (y : B) → slice_get xs i ≡ Some x → slice_get items i ≡ Some y → Is x y

each_after : {A B : Type 0} (Is : A → B → Type 0) (x : A) (xs : List A) (y : B) → Is x y → (rest : AreEach Is xs) → (i : ℕ) (a : A) (b : B) → slice_get (x ∷ xs) i ≡ Some a → slice_get (y ∷ rest.items) i ≡ Some b → Is a b
each_after Is x xs y is rest zero a b e f = subst (λ c. Is c b) (same_Some x a e) (subst (λ c. Is x c) (same_Some y b f) is)
each_after Is x xs y is rest (suc i) a b e f = rest.each i a b e f

each_found : {A B : Type 0} (Is : A → B → Type 0) (xs : List A) → ((i : ℕ) (x : A) → slice_get xs i ≡ Some x → (y : B) × Is x y) → AreEach Is xs
each_found Is [] h = record { items = []; count = refl; each = λ i x y e f. absurd (none-some x (sym (slice_get_past [] i (omega arith)) ∙ e)) }
each_found {A = A} {B = B} Is (x ∷ xs) h =
    let y = h 0 x refl in
    let rest = each_found Is xs (λ i z at. h (suc i) z at) in
    record { items = y.0 ∷ rest.items; count = ap suc rest.count; each = each_after Is x xs y.0 y.1 rest }

-- a line without a refusal gives a parameter
is_input : (inputs clocks : List (List ℕ)) (name : List ℕ) (b : Bool) → has_name inputs name ≡ b → not (has_name (inputs ++ clocks) name) ≡ false → has_name clocks name ≡ false → has_name inputs name ≡ true
is_input inputs clocks name true e known clock = e
is_input inputs clocks name false e known clock =
    let none : has_name (inputs ++ clocks) name ≡ false = list_any-append (bytes_eq name) inputs clocks ∙ ap (λ x. x || has_name clocks name) e ∙ clock in
    absurd (false≢true (sym known ∙ ap not none))

entry_some : (inputs clocks earlier : List (List ℕ)) (number : ℕ) (o : Option Entry) → entry_refusal inputs clocks earlier number o ≡ None → (p : Param) × (o ≡ Some (record { name = p.name; init = p.init })) × (slice_get inputs p.input ≡ Some p.name)
entry_some inputs clocks earlier number None h = absurd (none-some (Malformed number) (sym h))
entry_some inputs clocks earlier number (Some entry) h =
    let a = (none_both (ltb 65535 (length entry.name) || leb 65535 (length earlier)) (Parameters number) _ h).1 in
    let b = none_both (not (has_name (inputs ++ clocks) entry.name)) (NotInput number entry.name) _ a in
    let c = none_both (has_name clocks entry.name) (IsClock number entry.name) _ b.1 in
    let place = place_in inputs entry.name (has_in inputs entry.name (is_input inputs clocks entry.name (has_name inputs entry.name) refl b.0 c.0)) in
    (param entry.name place.0 entry.init, refl, place.1)

line_some : (inputs clocks : List (List ℕ)) (lines : List WordsLine) (i : ℕ) (line : WordsLine) → slice_get lines i ≡ Some line → refusal_at inputs clocks lines i ≡ None → (p : Param) × IsParamOf inputs line p
line_some inputs clocks lines i line at none =
    let there : line_refusal inputs clocks (names_said (take i lines)) line ≡ None = sym (ap (option_and_then (line_refusal inputs clocks (names_said (take i lines)))) at) ∙ none in
    let p = entry_some inputs clocks (names_said (take i lines)) line.number (entry_of line.words) there in
    (p.0, record { says = p.1; input = p.2 })

lines_some : (inputs clocks : List (List ℕ)) (lines : List WordsLine) → ((i : ℕ) → refusal_at inputs clocks lines i ≡ None) ⊎ ((e : ParErr) × IsFirstRefusal inputs clocks lines e)
    → HasAnswer (AreParamsOf inputs clocks lines) (IsFirstRefusal inputs clocks lines)
lines_some inputs clocks lines (inl none) =
    let params = each_found (IsParamOf inputs) lines (λ i line at. line_some inputs clocks lines i line at (none i)) in
    has_value params.items (record { no_refusal = none; count = params.count; each = params.each })
lines_some inputs clocks lines (inr first) = has_fault first.0 first.1

past_lines : (inputs clocks : List (List ℕ)) (lines : List WordsLine) (i : ℕ) → length lines ≤ i → refusal_at inputs clocks lines i ≡ None
past_lines inputs clocks lines i past = ap (option_and_then (line_refusal inputs clocks (names_said (take i lines)))) (slice_get_past lines i past)

lines_settled : (flat : FlatValue) → AreOnce flat.inputs → (lines : List WordsLine) → IsSettled (AreParamsOf flat.inputs flat.clocks lines) (IsFirstRefusal flat.inputs flat.clocks lines)
lines_settled flat once lines = record {
  some = lines_some flat.inputs flat.clocks lines (first_or_none (refusal_at flat.inputs flat.clocks lines) (length lines) (past_lines flat.inputs flat.clocks lines));
  one_value = one_list flat.inputs flat.clocks once lines;
  one_fault = one_first (refusal_at flat.inputs flat.clocks lines);
  not_both = λ params e are first. none_first (refusal_at flat.inputs flat.clocks lines) e are.no_refusal first;
}

pub one_reading : (flat : FlatValue) (text : List ℕ) → AreOnce flat.inputs → HasOneReading flat text
one_reading flat text once = text_settled par_err (λ lines. AreParamsOf flat.inputs flat.clocks lines) (λ lines. IsFirstRefusal flat.inputs flat.clocks lines) text (lines_settled flat once)

-- the parameters of lines are inputs at their places
pub are_parameters : (flat : FlatValue) (lines : List WordsLine) (params : List Param) → AreParamsOf flat.inputs flat.clocks lines params → AreNamed params → AreParameters flat params
are_parameters flat lines params are named = record {
  named = named;
  inputs = λ p j.
      let a = place_in params p j in
      let l = item_there params lines a.0 p are.count a.1 in
      (are.each a.0 l.0 p l.1 a.1).input;
}

same_then : {A B : Type 0} (f g : A → Option B) (o : Option A) → ((x : A) → f x ≡ g x) → option_and_then f o ≡ option_and_then g o
same_then f g None h = refl
same_then f g (Some x) h = h x

module _ (inputs clocks others : List (List ℕ)) (same : (name : List ℕ) → has_name clocks name ≡ has_name others name) where
  joined : (name : List ℕ) → has_name (inputs ++ clocks) name ≡ has_name (inputs ++ others) name
  joined name = list_any-append (bytes_eq name) inputs clocks ∙ ap (λ b. has_name inputs name || b) (same name) ∙ sym (list_any-append (bytes_eq name) inputs others)

  same_entry : (earlier : List (List ℕ)) (number : ℕ) (o : Option Entry) → entry_refusal inputs clocks earlier number o ≡ entry_refusal inputs others earlier number o
  same_entry earlier number None = refl
  same_entry earlier number (Some entry) = rw (joined entry.name, same entry.name) refl

  same_refusal : (lines : List WordsLine) (i : ℕ) → refusal_at inputs clocks lines i ≡ refusal_at inputs others lines i
  same_refusal lines i = same_then (line_refusal inputs clocks (names_said (take i lines))) (line_refusal inputs others (names_said (take i lines))) (slice_get lines i)
      (λ line. same_entry (names_said (take i lines)) line.number (entry_of line.words))

  pub same_params : (lines : List WordsLine) (params : List Param) → AreParamsOf inputs clocks lines params → AreParamsOf inputs others lines params
  same_params lines params are = record { no_refusal = λ i. sym (same_refusal lines i) ∙ are.no_refusal i; count = are.count; each = are.each }

  pub same_first : (lines : List WordsLine) (e : ParErr) → IsFirstRefusal inputs clocks lines e → IsFirstRefusal inputs others lines e
  same_first lines e first = record {
    place = first.place;
    is = sym (same_refusal lines first.place) ∙ first.is;
    none_before = λ i l. sym (same_refusal lines i) ∙ first.none_before i l;
  }

module _ (inputs clocks earlier : List (List ℕ)) (number : ℕ) (name : List ℕ) (init : Bool) where
  abbrev pub is_over : Bool
  is_over = ltb 65535 (length name) || leb 65535 (length earlier)

  abbrev refusal : Option ParErr
  refusal = entry_refusal inputs clocks earlier number (Some (record { name = name; init = init }))

  known : has_name (inputs ++ clocks) name ≡ (has_name inputs name || has_name clocks name)
  known = list_any-append (bytes_eq name) inputs clocks

  within_limits : length name ≤ 65535 → length earlier < 65535 → is_over ≡ false
  within_limits short few = or_from (ltb 65535 (length name)) (leb 65535 (length earlier)) (le-ltb 65535 (length name) short) (lt-leb 65535 (length earlier) few)

  pub no_input : length name ≤ 65535 → length earlier < 65535 → has_name clocks name ≡ false → has_name inputs name ≡ false → refusal ≡ Some (NotInput number name)
  no_input short few c i = rw (within_limits short few, known, i, c) refl

  pub stood_earlier : length name ≤ 65535 → length earlier < 65535 → has_name clocks name ≡ false → has_name inputs name ≡ true → has_name earlier name ≡ true → refusal ≡ Some (Repeated number name)
  stood_earlier short few c i e = rw (within_limits short few, known ∙ or_left (has_name inputs name) (has_name clocks name) i, c, e) refl

  pub no_refusal : length name ≤ 65535 → length earlier < 65535 → has_name clocks name ≡ false → has_name inputs name ≡ true → has_name earlier name ≡ false → refusal ≡ None
  no_refusal short few c i e = rw (within_limits short few, known ∙ or_left (has_name inputs name) (has_name clocks name) i, c, e) refl

  -- what holds where there is none
  not_over : refusal ≡ None → is_over ≡ false
  not_over h = (none_both is_over (Parameters number) _ h).0

  pub is_short : refusal ≡ None → length name ≤ 65535
  is_short h = ltb-false 65535 (length name) (or_parts (ltb 65535 (length name)) (leb 65535 (length earlier)) (not_over h)).0

  pub are_few : refusal ≡ None → length earlier < 65535
  are_few h = leb-false 65535 (length earlier) (or_parts (ltb 65535 (length name)) (leb 65535 (length earlier)) (not_over h)).1

  pub is_new : refusal ≡ None → has_name earlier name ≡ false
  is_new h =
      let a = (none_both is_over (Parameters number) _ h).1 in
      let b = (none_both (not (has_name (inputs ++ clocks) name)) (NotInput number name) _ a).1 in
      let c = (none_both (has_name clocks name) (IsClock number name) _ b).1 in
      (none_both (has_name earlier name) (Repeated number name) None c).0
