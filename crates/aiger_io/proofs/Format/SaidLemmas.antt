-- What symbols say, at the places of inputs, latches and outputs: a symbol may stand where its place is free, and then its name stands there.
-- The names of inputs and outputs that are read are their symbols', or the default ones, and these are one list alone. The lines of symbols one by one.
use Rattle.aiger_io.proofs.Common.{◌≡◌, ℕ, ◌+◌, ◌<◌, true, false, not, ltb, List, [], ◌∷◌, ◌++◌, length, map, Option, Some, None, inl, inr, refl, sym, ap, ◌∙◌, subst, arith, true≢false, slice_get, slice_set, slice_index_or, is_some, and_from, and_parts, ltb-true, lt-ltb, not-true, length-replicate, map-append, get_or_from_slice_get, In, In-left, In-push, In-pushed, at_within, set_here, set_other, set_length, same_or, named_count, SymbolsValue, no_name, no_symbols, first_of, place_of, may_stand, with_symbol, Header, LineKind, zero, suc, Bool, ◌&&◌, take, drop, unwrap_or, bytes_eq, bytes_decides, same_Some, slice_get_within, In-get, same_list, has_name, in_has, Circuit, input_names, output_names, port_names, is_twice, is_port, name_at, first_twice, IsPort, IsAlike, Symbol, count_of, AagErr, BadSymbol, nat_tests, or_left, or_right, cond-true, cond-false, cases_Bool, MayStand, is_bad_name, default_name, IsNameOf, by_symbol, AreNamesOf, Ok, Err, codes, append_assoc, append-nil, false_from_ne_true, IsSymbolRow, AreSymbolRows, AllStand, IsComment, symbol_of, symbol_at, symbols_from, rules}
use Rattle.aiger_io.specs.declared.item.LineKind.TheVariants.{Input, Latch, Output}
use Rattle.aiger_io.proofs.PortLemmas.{none_at, names_at, take_at, drop_at, inputs_length, outputs_length, two_places}
use Rattle.aiger_io.specs.declared.aag_err.AagErr.TheVariants as aag_err
use Rattle.aiger_io.proofs.LineLemmas.{symbols_next}
use Rattle.aiger_io.proofs.Format.RowLemmas.{symbol_read, symbol_spelled}

-- a place is that of one kind and ordinal
pub record AreSame (k l : LineKind) (m n : ℕ) : Type 0 where
  pub kind : k ≡ l
  pub ordinal : m ≡ n

pub place_apart : (h : Header) (k l : LineKind) (m n : ℕ) → m < count_of h k → n < count_of h l → first_of h k + m ≡ first_of h l + n → AreSame k l m n
place_apart h Input Input m n a b e = record { kind = refl; ordinal = omega arith }
place_apart h Latch Latch m n a b e = record { kind = refl; ordinal = omega arith }
place_apart h Output Output m n a b e = record { kind = refl; ordinal = omega arith }
place_apart h k l m n a b e = absurd (omega arith)

pub place_within : (h : Header) (k : LineKind) (n : ℕ) → n < count_of h k → first_of h k + n < named_count h
place_within h k n l = grind arith

-- the symbol whose name stands at a place
pub record IsFrom (h : Header) (symbols : List Symbol) (place : ℕ) (name : List ℕ) : Type 0 where
  pub symbol : Symbol
  pub among : In symbols symbol
  pub at : place_of h symbol ≡ place
  pub named : symbol.name ≡ name

pub record Says (h : Header) (symbols : List Symbol) (said : SymbolsValue) : Type 0 where
  pub size : length said.names ≡ named_count h
  pub below : (s : Symbol) → In symbols s → s.ordinal < count_of h s.kind
  pub there : (s : Symbol) → In symbols s → slice_get said.names (place_of h s) ≡ Some (Some s.name)
  pub only : (p : ℕ) (name : List ℕ) → slice_get said.names p ≡ Some (Some name) → IsFrom h symbols p name
  pub places : said.places ≡ map (place_of h) symbols

pub nothing_said : (h : Header) → Says h [] (no_symbols h)
nothing_said h = search (rules, length-replicate, none_at)

module _ (h : Header) (symbols : List Symbol) (said : SymbolsValue) (says : Says h symbols said) (s : Symbol) where
  -- a symbol that may stand has a free place
  free_place : MayStand h symbols s → (o : Option (List ℕ)) → slice_get said.names (place_of h s) ≡ Some o → is_some (slice_index_or said.names (place_of h s) None) ≡ false
  free_place may None e = ap is_some (get_or_from_slice_get said.names (place_of h s) None None e)
  free_place may (Some name) e =
      let f = says.only (place_of h s) name e in
      let a = place_apart h f.symbol.kind s.kind f.symbol.ordinal s.ordinal (says.below f.symbol f.among) may.below f.at in
      absurd (may.fresh f.symbol f.among a.kind a.ordinal)

  pub may_read : MayStand h symbols s → may_stand h said s ≡ true
  may_read may =
      let o = at_within said.names (place_of h s) (let l : place_of h s < named_count h = place_within h s.kind s.ordinal may.below in let n : length said.names ≡ named_count h = says.size in omega arith) in
      grind (arith, and_from, ltb, lt-ltb, free_place)

  pub read_may : may_stand h said s ≡ true → MayStand h symbols s
  read_may t = grind (arith, and_parts, ltb, not-true, ltb-true, true≢false, get_or_from_slice_get)

  module _ (may : MayStand h symbols s) where
    place_there : place_of h s < length said.names
    place_there = let l : place_of h s < named_count h = place_within h s.kind s.ordinal may.below in let n : length said.names ≡ named_count h = says.size in omega arith

    other_place : (u : Symbol) → In symbols u → place_of h u ≡ place_of h s → ⊥
    other_place u i e = let a = place_apart h u.kind s.kind u.ordinal s.ordinal (says.below u i) may.below e in may.fresh u i a.kind a.ordinal

    -- and then it is said
    pub says_more : Says h (symbols ++ s ∷ []) (with_symbol h s said)
    says_more = record {
      size = set_length said.names (place_of h s) (Some s.name) ∙ says.size;
      below = λ u i. elim (In-push symbols s u i) [
        | inl j ↦ says.below u j
        | inr e ↦ subst (λ (x : Symbol). x.ordinal < count_of h x.kind) (sym e) may.below
      ];
      there = λ u i. elim (In-push symbols s u i) [
        | inl j ↦ set_other said.names (place_of h s) (place_of h u) (Some s.name) (λ e. other_place u j e) ∙ says.there u j
        | inr e ↦ subst (λ (x : Symbol). slice_get (slice_set said.names (place_of h s) (Some s.name)) (place_of h x) ≡ Some (Some x.name)) (sym e) (set_here said.names (place_of h s) (Some s.name) place_there)
      ];
      only = λ p name e. elim (same_or p (place_of h s)) [
        | inl q ↦ (
            let here : slice_get (slice_set said.names (place_of h s) (Some s.name)) (place_of h s) ≡ Some (Some s.name) = set_here said.names (place_of h s) (Some s.name) place_there in
            let same : s.name ≡ name = cc in
            record { symbol = s; among = In-pushed symbols s; at = sym q; named = same })
        | inr d ↦ (
            let f = says.only p name (sym (set_other said.names (place_of h s) p (Some s.name) d) ∙ e) in
            record { symbol = f.symbol; among = In-left symbols (s ∷ []) f.symbol f.among; at = f.at; named = f.named })
      ];
      places = ap (λ l. l ++ place_of h s ∷ []) says.places ∙ sym (map-append (place_of h) symbols (s ∷ []));
    }

same_symbol : (s : Symbol) (k : LineKind) (n : ℕ) (x : List ℕ) → s.kind ≡ k → s.ordinal ≡ n → s.name ≡ x → s ≡ record { kind = k; ordinal = n; name = x }
same_symbol s k n x p q r = grind arith

module _ (h : Header) (symbols : List Symbol) (said : SymbolsValue) (says : Says h symbols said) where
  -- the name at a place
  name_of : (k : LineKind) (letter i : ℕ) (o : Option (List ℕ)) (x : List ℕ) → i < count_of h k → slice_get said.names (first_of h k + i) ≡ Some o → x ≡ unwrap_or o (default_name letter i) → IsNameOf symbols k letter i x
  name_of k letter i None x l at is = grind (arith, same_Some)
  name_of k letter i (Some name) x l at is =
      let f = says.only (first_of h k + i) name at in
      let a = place_apart h f.symbol.kind k f.symbol.ordinal i (says.below f.symbol f.among) l f.at in
      by_symbol (subst (In symbols) (same_symbol f.symbol k i x a.kind a.ordinal (f.named ∙ sym is)) f.among)

  pub inputs_named : AreNamesOf symbols Input 105 h.inputs (input_names h said)
  inputs_named = record {
    count_is = inputs_length h said says.size;
    each = λ i x e.
        let n = names_at 105 0 (take h.inputs said.names) i x e in
        let t = take_at h.inputs said.names i n.name n.at in
        let z : i ≡ 0 + i = omega arith in
        name_of Input 105 i n.name x t.0 (subst (λ y. slice_get said.names y ≡ Some n.name) z t.1) (n.is ∙ ap (λ y. unwrap_or n.name (default_name 105 y)) (sym z));
  }

  pub outputs_named : AreNamesOf symbols Output 111 h.outputs (output_names h said)
  outputs_named = record {
    count_is = outputs_length h said says.size;
    each = λ i x e.
        let n = names_at 111 0 (drop (h.inputs + h.latches) said.names) i x e in
        let w : i < length (output_names h said) = slice_get_within (output_names h said) i x e in
        let c : length (output_names h said) ≡ h.outputs = outputs_length h said says.size in
        let z : i ≡ 0 + i = omega arith in
        name_of Output 111 i n.name x (omega arith) (drop_at (h.inputs + h.latches) said.names i n.name n.at) (n.is ∙ ap (λ y. unwrap_or n.name (default_name 111 y)) (sym z));
  }

  -- one name alone
  name_once : (k : LineKind) (letter i : ℕ) (x y : List ℕ) → IsNameOf symbols k letter i x → IsNameOf symbols k letter i y → x ≡ y
  name_once k letter i x y e e2 = grind (arith, same_Some)

  pub names_once : (k : LineKind) (letter count : ℕ) (names others : List (List ℕ)) → AreNamesOf symbols k letter count names → AreNamesOf symbols k letter count others → names ≡ others
  names_once k letter count names others a b = same_list names others (a.count_is ∙ sym b.count_is) (λ i x y p q. name_once k letter i x y (a.each i x p) (b.each i y q))

-- a name that stands at two places
twice_at : (names : List (List ℕ)) (i j : ℕ) (x : List ℕ) → i < j → slice_get names i ≡ Some x → slice_get names j ≡ Some x → is_twice names x ≡ true
twice_at (n ∷ names) zero (suc j) x l p q =
    let e : n ≡ x = cc in
    or_left (bytes_eq x n && has_name names x) (is_twice names x) (and_from (bytes_eq x n) (has_name names x) ((bytes_decides x n).1 (sym e)) (in_has names x (In-get names j x q)))
twice_at (n ∷ names) (suc i) (suc j) x l p q = or_right (bytes_eq x n && has_name names x) (is_twice names x) (twice_at names i j x (omega arith) p q)
twice_at names i j x l p q = search rules

-- the places of inputs and outputs
port_is : (h : Header) (k : LineKind) (n : ℕ) → n < count_of h k → IsPort k → is_port h (first_of h k + n) ≡ true
port_is h k n l p = grind (arith, nat_tests)

is_port_of : (h : Header) (k : LineKind) (n : ℕ) → n < count_of h k → is_port h (first_of h k + n) ≡ true → IsPort k
is_port_of h k n l t = grind (arith, nat_tests)

-- the first symbol that gives a port the name of another one
pub data IsTwiceEnd (c : Circuit) (line : ℕ) (symbols : List Symbol) (o : Option AagErr) : Type 0 where
  never : ((s : Symbol) → In symbols s → IsAlike c s → ⊥) → o ≡ None → IsTwiceEnd c line symbols o
  first : (before after : List Symbol) (s : Symbol) → symbols ≡ before ++ s ∷ after → ((t : Symbol) → In before t → IsAlike c t → ⊥) → IsAlike c s → o ≡ Some (BadSymbol (line + length before) s.name) → IsTwiceEnd c line symbols o

module _ (c : Circuit) (symbols : List Symbol) (said : SymbolsValue) (says : Says c.header symbols said) (ports : c.inputs ++ c.outputs ≡ port_names c.header said) where
  name_said : (s : Symbol) → In symbols s → name_at said (place_of c.header s) ≡ s.name
  name_said s i = ap (λ o. unwrap_or o []) (get_or_from_slice_get said.names (place_of c.header s) (Some s.name) no_name (says.there s i))

  alike_read : (s : Symbol) → In symbols s → IsAlike c s → (is_port c.header (place_of c.header s) && is_twice (port_names c.header said) (name_at said (place_of c.header s))) ≡ true
  alike_read s i a = grind (arith, and_from, port_is, name_said, twice_at)

  read_alike : (s : Symbol) → In symbols s → (is_port c.header (place_of c.header s) && is_twice (port_names c.header said) (name_at said (place_of c.header s))) ≡ true → IsAlike c s
  read_alike s i t = grind (arith, and_parts, is_port_of, two_places, name_said)

  abbrev names_another : Symbol → Bool
  names_another s = is_port c.header (place_of c.header s) && is_twice (port_names c.header said) (name_at said (place_of c.header s))

  go_on : (line : ℕ) (s : Symbol) (ss : List Symbol) → names_another s ≡ false → first_twice c.header said line (map (place_of c.header) (s ∷ ss)) ≡ first_twice c.header said (line + 1) (map (place_of c.header) ss)
  go_on line s ss f = cond-false (names_another s) (Some (BadSymbol line (name_at said (place_of c.header s)))) (first_twice c.header said (line + 1) (map (place_of c.header) ss)) f

  found_here : (line : ℕ) (s : Symbol) (ss : List Symbol) → In symbols s → names_another s ≡ true → first_twice c.header said line (map (place_of c.header) (s ∷ ss)) ≡ Some (BadSymbol line s.name)
  found_here line s ss i t = cond-true (names_another s) (Some (BadSymbol line (name_at said (place_of c.header s)))) (first_twice c.header said (line + 1) (map (place_of c.header) ss)) t ∙ ap (λ x. Some (BadSymbol line x)) (name_said s i)

  -- where it stands
  pub twice_read : (line : ℕ) (before after : List Symbol) (s : Symbol) → ((t : Symbol) → In (before ++ s ∷ after) t → In symbols t) → ((t : Symbol) → In before t → IsAlike c t → ⊥) → IsAlike c s
      → first_twice c.header said line (map (place_of c.header) (before ++ s ∷ after)) ≡ Some (BadSymbol (line + length before) s.name)
  twice_read line [] after s among none is = grind (arith, found_here, alike_read)
  twice_read line (t ∷ before) after s among none is =
      go_on line t (before ++ s ∷ after) (elim (cases_Bool (names_another t)) [
        | inl a ↦ absurd (none t (inl refl) (read_alike t (among t (inl refl)) a))
        | inr f ↦ f
      ])
      ∙ twice_read (line + 1) before after s (λ u i. among u (inr i)) (λ u i. none u (inr i)) is ∙ ap (λ n. Some (BadSymbol n s.name)) (omega arith)

  -- and whether one does
  behind : (line : ℕ) (t : Symbol) (ss : List Symbol) (o : Option AagErr) → (IsAlike c t → ⊥) → IsTwiceEnd c (line + 1) ss o → IsTwiceEnd c line (t ∷ ss) o
  behind line t ss o not_it (never none is) = never (λ s i a. elim i [ inl e ↦ not_it (subst (IsAlike c) e a) | inr j ↦ none s j a ]) is
  behind line t ss o not_it (first before after s split none a is) =
      first (t ∷ before) after s (ap (λ l. t ∷ l) split) (λ u i b. elim i [ inl e ↦ not_it (subst (IsAlike c) e b) | inr j ↦ none u j b ]) a (is ∙ ap (λ n. Some (BadSymbol n s.name)) (omega arith))

  pub twice_end : (line : ℕ) (ss : List Symbol) → ((t : Symbol) → In ss t → In symbols t) → IsTwiceEnd c line ss (first_twice c.header said line (map (place_of c.header) ss))
  twice_end line [] among = never (λ s i a. i) refl
  twice_end line (s ∷ ss) among = elim (cases_Bool (names_another s)) [
    | inl t ↦ (let z : line ≡ line + length {A = Symbol} [] = omega arith in
        first [] ss s refl (λ u i a. i) (read_alike s (among s (inl refl)) t) (found_here line s ss (among s (inl refl)) t ∙ ap (λ n. Some (BadSymbol n s.name)) z))
    | inr f ↦ subst (IsTwiceEnd c line (s ∷ ss)) (sym (go_on line s ss f))
        (behind line s ss (first_twice c.header said (line + 1) (map (place_of c.header) ss)) (λ a. true≢false (sym (alike_read s (among s (inl refl)) a) ∙ f)) (twice_end (line + 1) ss (λ t i. among t (inr i))))
  ]

-- a symbol is no comment
pub no_comment : (row : List ℕ) (s : Symbol) → IsSymbolRow row s → row ≡ codes "c" → ⊥
no_comment row s r e = let q : r.letter ∷ (r.digits ++ 32 ∷ s.name) ≡ codes "c" = sym r.row_is ∙ e in let c : r.letter ≡ 99 = cc in grind arith

pub not_c : (row : List ℕ) → (row ≡ codes "c" → ⊥) → bytes_eq row (codes "c") ≡ false
not_c row ne = false_from_ne_true (bytes_eq row (codes "c")) (λ t. ne ((bytes_decides row (codes "c")).0 t))

-- what symbols leave
pub record IsSaid (h : Header) (line : ℕ) (said : SymbolsValue) (rows : List (List ℕ)) (symbols : List Symbol) (count : ℕ) (rest : List (List ℕ)) : Type 0 where
  pub more : SymbolsValue
  pub says : Says h symbols more
  pub same : symbols_from h line said rows ≡ symbols_from h (line + count) more rest

-- what stands is read
pub symbols_read : (h : Header) (line : ℕ) (said : SymbolsValue) (earlier : List Symbol) (rows : List (List ℕ)) (symbols : List Symbol) (rest : List (List ℕ)) → AreSymbolRows rows symbols → AllStand h earlier symbols → Says h earlier said
    → IsSaid h line said (rows ++ rest) (earlier ++ symbols) (length symbols) rest
symbols_read h line said earlier [] [] rest are stand says = search (rules, append-nil)
symbols_read h line said earlier (row ∷ rows) (s ∷ symbols) rest are stand says =
    let t : may_stand h said s ≡ true = may_read h earlier said says s stand.0 in
    let w = symbols_read h (line + 1) (with_symbol h s said) (earlier ++ s ∷ []) rows symbols rest are.1 stand.1 (says_more h earlier said says s stand.0) in
    record {
      more = w.more;
      says = subst (λ e. Says h e w.more) (append_assoc earlier (s ∷ []) symbols) w.says;
      same = symbols_next h line said row (rows ++ rest) (with_symbol h s said) (not_c row (λ e. no_comment row s are.0 e))
          (ap (symbol_at h line said) (symbol_read row s are.0) ∙ cond-true (may_stand h said s) (Ok (with_symbol h s said)) (Err (aag_err.BadSymbol line s.name)) t)
          ∙ w.same ∙ ap (λ n. symbols_from h n w.more rest) (omega arith);
    }
symbols_read h line said earlier rows symbols rest are stand says = absurd are

-- where it ends: a comment or nothing follows, or a line that isn't of its form, or a symbol that may not stand
pub data IsSymbolsEnd (h : Header) (symbols : List Symbol) (rest : List (List ℕ)) : Type 0 where
  done : IsComment rest → IsSymbolsEnd h symbols rest
  formless : (row : List ℕ) (more : List (List ℕ)) → rest ≡ row ∷ more → (row ≡ codes "c" → ⊥) → symbol_of row ≡ None → IsSymbolsEnd h symbols rest
  bad : (row : List ℕ) (more : List (List ℕ)) (s : Symbol) → rest ≡ row ∷ more → symbol_of row ≡ Some s → (MayStand h symbols s → ⊥) → IsSymbolsEnd h symbols rest

pub record IsSymbolsWalk (h : Header) (earlier : List Symbol) (rows : List (List ℕ)) : Type 0 where
  pub symbol_rows : List (List ℕ)
  pub symbols : List Symbol
  pub rest : List (List ℕ)
  pub said : SymbolsValue
  pub rows_are : rows ≡ symbol_rows ++ rest
  pub are : AreSymbolRows symbol_rows symbols
  pub stand : AllStand h earlier symbols
  pub says : Says h (earlier ++ symbols) said
  pub ends : IsSymbolsEnd h (earlier ++ symbols) rest

walk_ended : (h : Header) (said : SymbolsValue) (earlier : List Symbol) (rows : List (List ℕ)) → Says h earlier said → IsSymbolsEnd h earlier rows → IsSymbolsWalk h earlier rows
walk_ended h said earlier rows says ends = record {
  symbol_rows = [];
  symbols = [];
  rest = rows;
  said = said;
  rows_are = refl;
  are = tt;
  stand = tt;
  says = subst (λ e. Says h e said) (sym (append-nil earlier)) says;
  ends = subst (λ e. IsSymbolsEnd h e rows) (sym (append-nil earlier)) ends;
}

-- one step, where the line was looked at
walk_step : (h : Header) (said : SymbolsValue) (earlier : List Symbol) (row : List ℕ) (rows : List (List ℕ)) (o : Option Symbol) → Says h earlier said → (row ≡ codes "c" → ⊥) → symbol_of row ≡ o
    → ((s : Symbol) → MayStand h earlier s → IsSymbolsWalk h (earlier ++ s ∷ []) rows) → IsSymbolsWalk h earlier (row ∷ rows)
walk_step h said earlier row rows None says ne is later = walk_ended h said earlier (row ∷ rows) says (formless row rows refl ne is)
walk_step h said earlier row rows (Some s) says ne is later = elim (cases_Bool (may_stand h said s)) [
  | inl t ↦ (
      let may = read_may h earlier said says s t in
      let w = later s may in
      record {
        symbol_rows = row ∷ w.symbol_rows;
        symbols = s ∷ w.symbols;
        rest = w.rest;
        said = w.said;
        rows_are = ap (λ l. row ∷ l) w.rows_are;
        are = (symbol_spelled row s is, w.are);
        stand = (may, w.stand);
        says = subst (λ e. Says h e w.said) (append_assoc earlier (s ∷ []) w.symbols) w.says;
        ends = subst (λ e. IsSymbolsEnd h e w.rest) (append_assoc earlier (s ∷ []) w.symbols) w.ends;
      })
  | inr g ↦ walk_ended h said earlier (row ∷ rows) says (bad row rows s refl is (λ may. true≢false (sym (may_read h earlier said says s may) ∙ g)))
]

pub symbols_walk : (h : Header) (said : SymbolsValue) (earlier : List Symbol) (rows : List (List ℕ)) → Says h earlier said → IsSymbolsWalk h earlier rows
symbols_walk h said earlier [] says = walk_ended h said earlier [] says (done tt)
symbols_walk h said earlier (row ∷ rows) says = elim (cases_Bool (bytes_eq row (codes "c"))) [
  | inl t ↦ walk_ended h said earlier (row ∷ rows) says (done ((bytes_decides row (codes "c")).0 t))
  | inr f ↦ walk_step h said earlier row rows (symbol_of row) says (λ e. true≢false (sym ((bytes_decides row (codes "c")).1 e) ∙ f)) refl
      (λ s may. symbols_walk h (with_symbol h s said) (earlier ++ s ∷ []) rows (says_more h earlier said says s may))
]
