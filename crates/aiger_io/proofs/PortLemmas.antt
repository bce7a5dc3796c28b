-- Symbols and ports: each name that stands is that of a line, is clean and no longer than the line, and no two inputs or outputs have the same name.
use Rattle.aiger_io.proofs.Common.{◌≡◌, ℕ, zero, suc, ◌+◌, ◌<◌, ◌≤◌, Bool, false, ◌&&◌, ◌||◌, eqb, ltb, List, [], ◌∷◌, ◌++◌, length, Option, Some, None, Ok, inl, inr, refl, sym, ap, ◌∙◌, subst, arith, length-drop, bytes_eq, codes, slice_get, slice_set, replicate, list_any, and_parts, not-true, cases_Bool, cases_lt, or_parts, slice_get_within, In, In-left, In-pushed, set_here, set_other, set_length, same_or, IsClean, is_bad, is_blank, and_then, BadSymbol, Header, LineKind, true, bytes_decides, has_name, with_name, has_with_names, twice_from, seen_from, is_twice, lit<, ◌^◌, ◌⊎◌, take, drop, decimal, length-take, unwrap_or, get_or, slice_get-get_or, same_Some, decimal_is_IsNumeral, digits_value, place_in, none_both, AreOnce, has_in, in_has, named_count, default_name, names_from, input_names, output_names, port_names, is_port, name_at, first_twice, StandsTwice, SymbolsValue, no_name, nat_tests, Symbol, no_symbols, symbol_by, symbol_with, symbol_of, is_bad_byte, is_bad_name, place_of, with_symbol, symbol_at, symbols_from, true≢false, and_from, or_cases, or_left, or_right, rules}
use Rattle.aiger_io.proofs.LineLemmas.{behind_of, chosen, ok_then}

-- a name of a line of at most so many bytes
pub record IsGoodName (most : ℕ) (name : List ℕ) : Type 0 where
  pub clean : IsClean name
  pub short : length name ≤ most

none_of : (test : ℕ → Bool) (xs : List ℕ) → list_any test xs ≡ false → (x : ℕ) → In xs x → test x ≡ false
none_of test [] e x i = absurd i
none_of test (y ∷ ys) e x (inl q) = subst (λ z. test z ≡ false) (sym q) (or_parts (test y) (list_any test ys) e).0
none_of test (y ∷ ys) e x (inr i) = none_of test ys (or_parts (test y) (list_any test ys) e).1 x i

not_blank : (b : ℕ) → is_bad_byte b ≡ false → is_blank b ≡ false
not_blank b good = grind (arith, nat_tests)

not_bad : (b : ℕ) → is_bad_byte b ≡ false → is_bad b ≡ false
not_bad b good = grind (arith, nat_tests)

not_comment : (b : ℕ) → is_bad_byte b ≡ false → b ≡ 35 → ⊥
not_comment b good e = grind (arith, nat_tests)

clean_name : (name : List ℕ) → 0 < length name → is_bad_name name ≡ false → IsClean name
clean_name name some e = grind (arith, or_parts, none_of, not_blank, not_bad, not_comment)

-- the name of a symbol's line
record IsNameIn (row name : List ℕ) : Type 0 where
  some : 0 < length name
  within : length name ≤ length row

by_name : (name : List ℕ) (ordinal : Option ℕ) (kind : Option LineKind) (s : Symbol) → symbol_by name ordinal kind ≡ Some s → s.name ≡ name
by_name name ordinal kind s e = grind arith

name_in : (key name : List ℕ) (s : Symbol) → symbol_with key name ≡ Some s → (s.name ≡ name) × (0 < length name)
name_in key name s e = grind (arith, by_name)

symbol_name : (row : List ℕ) (s : Symbol) → symbol_of row ≡ Some s → IsNameIn row s.name
symbol_name row s e = grind (arith, name_in, eqb, length-drop)

-- what stands so far
pub record AreNamed (most : ℕ) (said : SymbolsValue) : Type 0 where
  pub placed : (p : ℕ) (name : List ℕ) → slice_get said.names p ≡ Some (Some name) → In said.places p
  pub good : (p : ℕ) (name : List ℕ) → slice_get said.names p ≡ Some (Some name) → IsGoodName most name

pub none_at : (n p : ℕ) (name : List ℕ) → slice_get (replicate n no_name) p ≡ Some (Some name) → ⊥
none_at (suc n) (suc p) name e = none_at n p name e
none_at n p name e = absurd (cc)

module _ (most : ℕ) (h : Header) (said : SymbolsValue) (are : AreNamed most said) (s : Symbol) (good : IsGoodName most s.name) where
  set_named : (p : ℕ) (name : List ℕ) → slice_get (slice_set said.names (place_of h s) (Some s.name)) p ≡ Some (Some name) → (IsGoodName most name) × (In (said.places ++ place_of h s ∷ []) p)
  set_named p name e = elim (same_or p (place_of h s)) [
    | inl q ↦ elim (cases_lt (place_of h s) (length said.names)) [
      | inl l ↦ (
          let here : slice_get (slice_set said.names (place_of h s) (Some s.name)) (place_of h s) ≡ Some (Some s.name) = set_here said.names (place_of h s) (Some s.name) l in
          let same : s.name ≡ name = cc in
          (subst (IsGoodName most) same good, subst (λ i. In (said.places ++ place_of h s ∷ []) i) (sym q) (In-pushed said.places (place_of h s))))
      | inr l ↦ absurd (
          let z : p ≡ place_of h s = q in omega (arith, set_length said.names (place_of h s) (Some s.name), slice_get_within (slice_set said.names (place_of h s) (Some s.name)) p (Some name) e))
    ]
    | inr d ↦ (
        let old : slice_get said.names p ≡ Some (Some name) = sym (set_other said.names (place_of h s) p (Some s.name) d) ∙ e in
        (are.good p name old, In-left said.places (place_of h s ∷ []) p (are.placed p name old)))
  ]

  pub one_named : AreNamed most (with_symbol h s said)
  one_named = record { placed = λ p name e. (set_named p name e).1; good = λ p name e. (set_named p name e).0 }

-- and all of them
taken : (most : ℕ) (h : Header) (line : ℕ) (said more : SymbolsValue) (o : Option Symbol) → AreNamed most said → ((s : Symbol) → o ≡ Some s → (0 < length s.name) × (length s.name ≤ most)) → symbol_at h line said o ≡ Ok more → AreNamed most more
taken most h line said more o are good e = grind (arith, ok_then, and_parts, ltb, clean_name, not-true, one_named)

named_by : (most : ℕ) (h : Header) (line : ℕ) (said all : SymbolsValue) (rows : List (List ℕ)) → ((row : List ℕ) → In rows row → length row ≤ most) → AreNamed most said → symbols_from h line said rows ≡ Ok all → AreNamed most all
named_by most h line said all [] short are e = let q : said ≡ all = cc in subst (AreNamed most) q are
named_by most h line said all (row ∷ rows) short are e = elim (chosen (bytes_eq row (codes "c")) (Ok said) (and_then (λ (more : SymbolsValue). symbols_from h (line + 1) more rows) (symbol_at h line said (symbol_of row))) (Ok all) e) [
  | inl t ↦ (let q : said ≡ all = cc in subst (AreNamed most) q are)
  | inr t ↦ (
      let d = behind_of (λ (more : SymbolsValue). symbols_from h (line + 1) more rows) (symbol_at h line said (symbol_of row)) all t.1 in
      let u : length row ≤ most = short row (inl refl) in
      named_by most h (line + 1) d.first all rows (λ r i. short r (inr i)) (taken most h line said d.first (symbol_of row) are (λ s q. let n = symbol_name row s q in let w : length s.name ≤ length row = n.within in (n.some, omega arith)) d.is) d.then_is)
]

pub symbols_named : (most : ℕ) (h : Header) (line : ℕ) (all : SymbolsValue) (rows : List (List ℕ)) → ((row : List ℕ) → In rows row → length row ≤ most) → symbols_from h line (no_symbols h) rows ≡ Ok all → AreNamed most all
symbols_named most h line all rows short e = named_by most h line (no_symbols h) all rows short (search (rules, none_at)) e

hit : (f s e m t : Bool) → (e ≡ true → s ≡ true) → ((f || (e || false)) || (s && m)) || t ≡ (f || (s && (e || m))) || ((e && m) || t)
hit f s e m t h = grind arith

miss : (f s e m t : Bool) → (e ≡ true → s ≡ false) → (f || ((s || (e || false)) && m)) || t ≡ (f || (s && (e || m))) || ((e && m) || t)
miss f s e m t h = grind arith

same_has : (names : List (List ℕ)) (n x : List ℕ) (b : Bool) → has_name names n ≡ b → bytes_eq x n ≡ true → has_name names x ≡ b
same_has names n x b h e = subst (λ z. has_name names z ≡ b) (sym ((bytes_decides x n).0 e)) h

found_twice : (names seen found : List (List ℕ)) (x : List ℕ) → has_name (twice_from seen found names) x ≡ (has_name found x || (has_name seen x && has_name names x)) || is_twice names x
found_twice [] seen found x = grind arith
found_twice (n ∷ ns) seen found x = elim (cases_Bool (has_name seen n)) [
  | inl t ↦ cc (found_twice ns seen (with_name found n) x, has_with_names found (n ∷ []) x, hit (has_name found x) (has_name seen x) (bytes_eq x n) (has_name ns x) (is_twice ns x) (same_has seen n x true t))
  | inr f ↦ cc (found_twice ns (with_name seen n) found x, has_with_names seen (n ∷ []) x, miss (has_name found x) (has_name seen x) (bytes_eq x n) (has_name ns x) (is_twice ns x) (same_has seen n x false f))
]

pub twice_joined : (xs ys seen found : List (List ℕ)) → twice_from seen found (xs ++ ys) ≡ twice_from (seen_from seen xs) (twice_from seen found xs) ys
twice_joined [] ys seen found = refl
twice_joined (x ∷ xs) ys seen found = elim (cases_Bool (has_name seen x)) [ inl t ↦ cc (twice_joined xs ys seen (with_name found x)) | inr f ↦ cc (twice_joined xs ys (with_name seen x) found) ]

-- those among two lists, one after the other
pub all_found : (xs ys : List (List ℕ)) (found : List (List ℕ)) → found ≡ twice_from (seen_from [] xs) (twice_from [] [] xs) ys → (x : List ℕ) → has_name found x ≡ is_twice (xs ++ ys) x
all_found xs ys found is x = ap (λ l. has_name l x) (is ∙ sym (twice_joined xs ys [] [])) ∙ found_twice (xs ++ ys) [] [] x

-- names none of which stands twice are apart
behind_twice : (names : List (List ℕ)) (n x : List ℕ) → is_twice names x ≡ true → is_twice (n ∷ names) x ≡ true
behind_twice names n x t = or_right (bytes_eq x n && has_name names x) (is_twice names x) t

pub never_twice : (names : List (List ℕ)) → ((x : List ℕ) → is_twice names x ≡ true → ⊥) → AreOnce names
never_twice [] h = tt
never_twice (n ∷ names) h = (
  λ i. h n (or_left (bytes_eq n n && has_name names n) (is_twice names n) (and_from (bytes_eq n n) (has_name names n) ((bytes_decides n n).1 refl) (in_has names n i))),
  never_twice names (λ x t. h x (behind_twice names n x t)),
)

-- a name that stands twice has two places
pub two_places : (names : List (List ℕ)) (x : List ℕ) → is_twice names x ≡ true → StandsTwice names x
two_places [] x t = absurd (true≢false (sym t))
two_places (n ∷ names) x t = elim (or_cases (bytes_eq x n && has_name names x) (is_twice names x) t) [
  | inl h ↦ (
      let p = and_parts (bytes_eq x n) (has_name names x) h in
      let q = place_in names x (has_in names x p.1) in
      record { first = zero; second = suc q.0; order = omega arith; here = ap (λ z. Some z) (sym ((bytes_decides x n).0 p.0)); there = q.1 })
  | inr h ↦ (let r = two_places names x h in let o : r.first < r.second = r.order in record { first = suc r.first; second = suc r.second; order = omega arith; here = r.here; there = r.there })
]

-- the name of an ordinal
pub record IsNamedFrom (letter first : ℕ) (names : List (Option (List ℕ))) (i : ℕ) (x : List ℕ) : Type 0 where
  pub name : Option (List ℕ)
  pub at : slice_get names i ≡ Some name
  pub is : x ≡ unwrap_or name (default_name letter (first + i))

pub names_at : (letter first : ℕ) (names : List (Option (List ℕ))) (i : ℕ) (x : List ℕ) → slice_get (names_from letter first names) i ≡ Some x → IsNamedFrom letter first names i x
names_at letter first [] i x e = absurd (cc)
names_at letter first (o ∷ os) zero x e =
    let q : unwrap_or o (default_name letter first) ≡ x = cc in
    record { name = o; at = refl; is = sym q ∙ ap (λ k. unwrap_or o (default_name letter k)) (omega arith) }
names_at letter first (o ∷ os) (suc i) x e = grind (arith, unwrap_or, names_at letter (first + 1) os i x e)

pub names_length : (letter first : ℕ) (names : List (Option (List ℕ))) → length (names_from letter first names) ≡ length names
names_length letter first [] = refl
names_length letter first (o ∷ os) = ap (λ n. suc n) (names_length letter (first + 1) os)

pub take_at : {A : Type 0} (n : ℕ) (xs : List A) (i : ℕ) (x : A) → slice_get (take n xs) i ≡ Some x → (i < n) × (slice_get xs i ≡ Some x)
take_at (suc n) (y ∷ ys) zero x e = (omega arith, e)
take_at (suc n) (y ∷ ys) (suc i) x e = let r = take_at n ys i x e in let l : i < n = r.0 in (omega arith, r.1)
take_at n xs i x e = absurd (cc)

pub drop_at : {A : Type 0} (n : ℕ) (xs : List A) (i : ℕ) (x : A) → slice_get (drop n xs) i ≡ Some x → slice_get xs (n + i) ≡ Some x
drop_at zero xs i x e = let z : i ≡ 0 + i = omega arith in subst (λ k. slice_get xs k ≡ Some x) z e
drop_at (suc n) [] i x e = absurd (cc)
drop_at (suc n) (y ∷ ys) i x e = let z : suc (n + i) ≡ suc n + i = omega arith in subst (λ k. slice_get (y ∷ ys) k ≡ Some x) z (drop_at n ys i x e)

pub append_at : {A : Type 0} (xs ys : List A) (i : ℕ) (x : A) → slice_get (xs ++ ys) i ≡ Some x → ((i < length xs) × (slice_get xs i ≡ Some x)) ⊎ ((k : ℕ) × (i ≡ length xs + k) × (slice_get ys k ≡ Some x))
append_at {A = A} [] ys i x e = inr (i, (let z : i ≡ length {A = A} [] + i = omega arith in z), e)
append_at (y ∷ xs) ys zero x e = inl (omega arith, e)
append_at (y ∷ xs) ys (suc i) x e = search (rules, append_at xs ys i x e)

-- a port: an input by its place, or an output
data IsPortAt (h : Header) (said : SymbolsValue) (i : ℕ) (x : List ℕ) : Type 0 where
  input : (o : Option (List ℕ)) → i < h.inputs → slice_get said.names i ≡ Some o → x ≡ unwrap_or o (default_name 105 i) → IsPortAt h said i x
  output : (k : ℕ) (o : Option (List ℕ)) → i ≡ h.inputs + k → slice_get said.names (h.inputs + h.latches + k) ≡ Some o → x ≡ unwrap_or o (default_name 111 k) → IsPortAt h said i x

module _ (h : Header) (said : SymbolsValue) (size : length said.names ≡ named_count h) where
  pub inputs_length : length (input_names h said) ≡ h.inputs
  inputs_length = names_length 105 0 (take h.inputs said.names) ∙ (let n : length said.names ≡ h.inputs + h.latches + h.outputs = size in omega (arith, length-take h.inputs said.names))

  pub outputs_length : length (output_names h said) ≡ h.outputs
  outputs_length = names_length 111 0 (drop (h.inputs + h.latches) said.names) ∙ (let n : length said.names ≡ h.inputs + h.latches + h.outputs = size in omega (arith, length-drop (h.inputs + h.latches) said.names))

  port_at : (i : ℕ) (x : List ℕ) → slice_get (port_names h said) i ≡ Some x → IsPortAt h said i x
  port_at i x e = elim (append_at (input_names h said) (output_names h said) i x e) [
    | inl r ↦ (
        let n = names_at 105 0 (take h.inputs said.names) i x r.1 in
        let t = take_at h.inputs said.names i n.name n.at in
        let z : 0 + i ≡ i = omega arith in
        input n.name t.0 t.1 (n.is ∙ ap (λ k. unwrap_or n.name (default_name 105 k)) z))
    | inr r ↦ (
        let n = names_at 111 0 (drop (h.inputs + h.latches) said.names) r.0 x r.2 in
        let t = drop_at (h.inputs + h.latches) said.names r.0 n.name n.at in
        let z : 0 + r.0 ≡ r.0 = omega arith in
        output r.0 n.name (r.1 ∙ ap (λ k. k + r.0) inputs_length) t (n.is ∙ ap (λ k. unwrap_or n.name (default_name 111 k)) z))
  ]

none_found : (h : Header) (said : SymbolsValue) (line : ℕ) (places : List ℕ) → first_twice h said line places ≡ None → (p : ℕ) → In places p → (is_port h p && is_twice (port_names h said) (name_at said p)) ≡ false
none_found h said line [] e p i = absurd i
none_found h said line (q ∷ qs) e p (inl s) = subst (λ z. (is_port h z && is_twice (port_names h said) (name_at said z)) ≡ false) (sym s) (none_both (is_port h q && is_twice (port_names h said) (name_at said q)) (BadSymbol line (name_at said q)) (first_twice h said (line + 1) qs) e).0
none_found h said line (q ∷ qs) e p (inr i) = none_found h said (line + 1) qs (none_both (is_port h q && is_twice (port_names h said) (name_at said q)) (BadSymbol line (name_at said q)) (first_twice h said (line + 1) qs) e).1 p i

same_decimal : (m n : ℕ) → m < 2 ^ 64 → n < 2 ^ 64 → decimal m ≡ decimal n → m ≡ n
same_decimal m n a b e = sym (decimal_is_IsNumeral m a).1 ∙ ap (digits_value 10) e ∙ (decimal_is_IsNumeral n b).1

letters_apart : (x y : ℕ) (a b : List ℕ) → x < y → x ∷ a ≡ y ∷ b → ⊥
letters_apart x y a b l e = let n : x ≡ y = cc in omega arith

-- what two ports of one name would have
module _ (h : Header) (said : SymbolsValue) (most line : ℕ) (size : length said.names ≡ named_count h) (few : named_count h < 4294967296) (are : AreNamed most said) (none : first_twice h said line said.places ≡ None) where
  symbol_once : (p : ℕ) (name : List ℕ) → is_port h p ≡ true → slice_get said.names p ≡ Some (Some name) → is_twice (port_names h said) name ≡ true → ⊥
  symbol_once p name port at t =
      let f = none_found h said line said.places none p (are.placed p name at) in
      let g : get_or said.names p no_name ≡ Some name = same_Some (get_or said.names p no_name) (Some name) (sym (slice_get-get_or said.names p no_name (slice_get_within said.names p (Some name) at)) ∙ at) in
      let n : name_at said p ≡ name = ap (λ o. unwrap_or o []) g in
      true≢false (sym (and_from (is_port h p) (is_twice (port_names h said) (name_at said p)) port (ap (is_twice (port_names h said)) n ∙ t)) ∙ f)

  input_port : (i : ℕ) → i < h.inputs → is_port h i ≡ true
  input_port i l = grind (arith, nat_tests)

  output_port : (k : ℕ) → is_port h (h.inputs + h.latches + k) ≡ true
  output_port k = grind (arith, nat_tests)

  -- a name that stands twice is no symbol's, so it is one by default
  default_input : (i : ℕ) (o : Option (List ℕ)) (x : List ℕ) → i < h.inputs → slice_get said.names i ≡ Some o → x ≡ unwrap_or o (default_name 105 i) → is_twice (port_names h said) x ≡ true → x ≡ default_name 105 i
  default_input i None x l at is t = is
  default_input i (Some name) x l at is t = absurd (symbol_once i name (input_port i l) at (subst (λ z. is_twice (port_names h said) z ≡ true) is t))

  default_output : (k : ℕ) (o : Option (List ℕ)) (x : List ℕ) → slice_get said.names (h.inputs + h.latches + k) ≡ Some o → x ≡ unwrap_or o (default_name 111 k) → is_twice (port_names h said) x ≡ true → x ≡ default_name 111 k
  default_output k None x at is t = is
  default_output k (Some name) x at is t = absurd (symbol_once (h.inputs + h.latches + k) name (output_port k) at (subst (λ z. is_twice (port_names h said) z ≡ true) is t))

  small_place : (p : ℕ) (o : Option (List ℕ)) → slice_get said.names p ≡ Some o → p < 2 ^ 64
  small_place p o at = let l : p < length said.names = slice_get_within said.names p o at in omega arith

  not_two : (i j : ℕ) (x : List ℕ) → i < j → IsPortAt h said i x → IsPortAt h said j x → is_twice (port_names h said) x ≡ true → ⊥
  not_two i j x l e e2 t = grind (arith, default_input, decimal, same_decimal, small_place, default_output, letters_apart, lit<)

  pub ports_once : AreOnce (port_names h said)
  ports_once = never_twice (port_names h said) (λ x t.
      let p = two_places (port_names h said) x t in
      not_two p.first p.second x p.order (port_at h said size p.first x p.here) (port_at h said size p.second x p.there) t)

-- each port's name is a symbol, or one by default
pub data IsPortName (said : SymbolsValue) (x : List ℕ) : Type 0 where
  by_symbol : (p : ℕ) → slice_get said.names p ≡ Some (Some x) → IsPortName said x
  by_default : (letter k p : ℕ) (o : Option (List ℕ)) → (letter ≡ 105) ⊎ (letter ≡ 111) → k ≤ p → slice_get said.names p ≡ Some o → x ≡ default_name letter k → IsPortName said x

named_port : (said : SymbolsValue) (letter k p : ℕ) (o : Option (List ℕ)) (x : List ℕ) → (letter ≡ 105) ⊎ (letter ≡ 111) → k ≤ p → slice_get said.names p ≡ Some o → x ≡ unwrap_or o (default_name letter k) → IsPortName said x
named_port said letter k p None x l w at is = by_default letter k p None l w at is
named_port said letter k p (Some name) x l w at is = by_symbol p (subst (λ z. slice_get said.names p ≡ Some (Some z)) (sym is) at)

port_named : (h : Header) (said : SymbolsValue) (i : ℕ) (x : List ℕ) → IsPortAt h said i x → IsPortName said x
port_named h said i x (input o a b c) = named_port said 105 i i o x (inl refl) (omega arith) b c
port_named h said i x (output k o a b c) = named_port said 111 k (h.inputs + h.latches + k) o x (inr refl) (omega arith) b c

pub port_name_of : (h : Header) (said : SymbolsValue) → length said.names ≡ named_count h → (x : List ℕ) → In (port_names h said) x → IsPortName said x
port_name_of h said size x i = let p = place_in (port_names h said) x i in port_named h said p.0 x (port_at h said size p.0 x p.1)
