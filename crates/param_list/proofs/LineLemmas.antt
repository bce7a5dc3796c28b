-- The lines of a list are read one by one: the parameters of the lines so far, the first line that has a refusal, and the parameter of a line, whose name is one of the line's tokens.
use Rattle.param_list.proofs.Common.{◌≡◌, ℕ, ◌+◌, ◌<◌, Bool, List, [], ◌∷◌, ◌++◌, length, get_or, map, Option, Some, None, refl, sym, ap, ◌∙◌, subst, inl, inr, slice_get, option_map, none-some, same_Some, slice_get-map, slice_get_read, In, member_at, from_map, IsClean, AreCleanIn, LineValue, token_bytes, words_line, place_of, place_none, Param, param_names, Entry, entry_of, entry_with, entry_refusal, line_refusal, IsParamOf, ◌≤◌, take, arith, length-append, option_and_then, cases_lt, length-map, map-append, slice_get_past, pushed_apart, In-push, get_pushed, take_get, WordsLine, AreOnce, ParErr, AreNamed, with_name, names_said, refusal_at, IsFirstRefusal, AreParamsOf}
use Rattle.tl_text.specs.Decimal.{bit_of}
use Rattle.param_list.proofs.OnceLemmas.{is_new, is_short, are_few}
use Rattle.tl_text.proofs.NameLemmas.{not_there}

with_name-append : (o : Option Entry) (xs ys : List (List ℕ)) → with_name o (xs ++ ys) ≡ with_name o xs ++ ys
with_name-append None xs ys = refl
with_name-append (Some entry) xs ys = refl

names_said-append : (xs ys : List WordsLine) → names_said (xs ++ ys) ≡ names_said xs ++ names_said ys
names_said-append [] ys = refl
names_said-append (x ∷ xs) ys = ap (with_name (entry_of x.words)) (names_said-append xs ys) ∙ with_name-append (entry_of x.words) (names_said xs) (names_said ys)

pub param_names-push : (params : List Param) (p : Param) → param_names (params ++ p ∷ []) ≡ param_names params ++ p.name ∷ []
param_names-push params p = map-append (λ (q : Param). q.name) params (p ∷ [])

-- the lines before a place have no refusal, and these are their parameters
pub record AreRead (inputs clocks : List (List ℕ)) (lines : List WordsLine) (i : ℕ) (params : List Param) : Type 0 where
  pub none : (k : ℕ) → k < i → refusal_at inputs clocks lines k ≡ None
  pub names : names_said (take i lines) ≡ param_names params
  pub count : length params ≡ i
  pub each : (k : ℕ) (line : WordsLine) (p : Param) → slice_get lines k ≡ Some line → slice_get params k ≡ Some p → IsParamOf inputs line p
  pub named : AreNamed params

module _ (inputs clocks : List (List ℕ)) (lines : List WordsLine) where
  pub nothing_read : AreRead inputs clocks lines 0 []
  nothing_read = record {
    none = λ k l. absurd (omega arith);
    names = refl;
    count = refl;
    each = λ k line p e f. absurd (none-some p f);
    named = record { few = omega arith; short = λ p i. absurd i; clean = λ p i. absurd i; once = tt };
  }

  module _ (i : ℕ) (params : List Param) (read : AreRead inputs clocks lines i params) (line : WordsLine) (at : slice_get lines i ≡ Some line) where
    -- the refusal of the next line
    next_refusal : refusal_at inputs clocks lines i ≡ line_refusal inputs clocks (param_names params) line
    next_refusal = ap (option_and_then (line_refusal inputs clocks (names_said (take i lines)))) at ∙ ap (λ earlier. line_refusal inputs clocks earlier line) read.names

    pub first_refusal : (e : ParErr) → line_refusal inputs clocks (param_names params) line ≡ Some e → IsFirstRefusal inputs clocks lines e
    first_refusal e is = record { place = i; is = next_refusal ∙ is; none_before = read.none }

    module _ (p : Param) (clean : IsClean p.name) (is : IsParamOf inputs line p) (none : line_refusal inputs clocks (param_names params) line ≡ None) where
      said : entry_refusal inputs clocks (param_names params) line.number (Some (record { name = p.name; init = p.init })) ≡ None
      said = ap (entry_refusal inputs clocks (param_names params) line.number) (sym is.says) ∙ none

      names_after : names_said (take (i + 1) lines) ≡ param_names (params ++ p ∷ [])
      names_after =
          ap names_said (take_get lines i line at) ∙ names_said-append (take i lines) (line ∷ []) ∙ ap (λ l. l ++ with_name (entry_of line.words) []) read.names
          ∙ ap (λ o. param_names params ++ with_name o []) is.says ∙ sym (param_names-push params p)

      named_next : AreNamed (params ++ p ∷ [])
      named_next = record {
        few = (let n : length (param_names params) < 65535 = are_few inputs clocks (param_names params) line.number p.name p.init said in
            let m : length (param_names params) ≡ length params = length-map params (λ (q : Param). q.name) in
            let l : length (params ++ p ∷ []) ≡ length params + 1 = length-append params (p ∷ []) in omega arith);
        short = λ q j. elim (In-push params p q j) [ inl o ↦ read.named.short q o | inr e ↦ subst (λ (r : Param). length r.name ≤ 65535) (sym e) (is_short inputs clocks (param_names params) line.number p.name p.init said) ];
        clean = λ q j. elim (In-push params p q j) [ inl o ↦ read.named.clean q o | inr e ↦ subst (λ (r : Param). IsClean r.name) (sym e) clean ];
        once = subst AreOnce (sym (param_names-push params p)) (pushed_apart (param_names params) p.name read.named.once (not_there (param_names params) p.name (is_new inputs clocks (param_names params) line.number p.name p.init said)));
      }

      pub one_more : AreRead inputs clocks lines (i + 1) (params ++ p ∷ [])
      one_more = record {
        none = λ k l. elim (cases_lt k i) [ inl m ↦ read.none k m | inr m ↦ (let e : i ≡ k = omega arith in subst (λ j. refusal_at inputs clocks lines j ≡ None) e (next_refusal ∙ none)) ];
        names = names_after;
        count = (let n : length params ≡ i = read.count in let l : length (params ++ p ∷ []) ≡ length params + 1 = length-append params (p ∷ []) in omega arith);
        each = λ k other q e f. elim (get_pushed params p k q f) [
          | inl g ↦ read.each k other q e g
          | inr g ↦ (let same : line ≡ other = same_Some line other (sym at ∙ subst (λ j. slice_get lines j ≡ Some other) (g.0 ∙ read.count) e) in
              subst (λ (r : Param). IsParamOf inputs other r) g.1 (subst (λ (l : WordsLine). IsParamOf inputs l p) same is))
        ];
        named = named_next;
      }

  -- all lines are read
  pub all_read : (i : ℕ) (params : List Param) → AreRead inputs clocks lines i params → i ≡ length lines → AreParamsOf inputs clocks lines params
  all_read i params read end = record {
    no_refusal = λ k. elim (cases_lt k i) [
      | inl l ↦ read.none k l
      | inr l ↦ ap (option_and_then (line_refusal inputs clocks (names_said (take k lines)))) (slice_get_past lines k (omega arith))
    ];
    count = read.count ∙ end;
    each = read.each;
  }

-- the name that a line says is one of its words
said_name : (name : List ℕ) (o : Option Bool) (e : Entry) → entry_with name o ≡ Some e → e.name ≡ name
said_name name None e h = absurd (none-some e h)
said_name name (Some init) e h = let same = same_Some _ _ h in sym (ap (λ (x : Entry). x.name) same)

entry_name : (words : List (List ℕ)) (e : Entry) → entry_of words ≡ Some e → In words e.name
entry_name [] e h = absurd (none-some e h)
entry_name (name ∷ []) e h = absurd (none-some e h)
entry_name (name ∷ bit ∷ []) e h = inl (said_name name (bit_of bit) e h)
entry_name (name ∷ bit ∷ third ∷ others) e h = absurd (none-some e h)

module _ (text : List ℕ) (lines : List LineValue) (i : ℕ) (line : LineValue) (within : i < length lines) (item : line ≡ get_or lines i line) where
  pub line_at : slice_get (map (words_line text) lines) i ≡ Some (words_line text line)
  line_at = slice_get-map (words_line text) lines i ∙ ap (option_map (words_line text)) (slice_get_read lines (length lines) i line refl within item)

  module _ (inputs : List (List ℕ)) (p : Param) (is : IsParamOf inputs (words_line text line) p) where
    clean_name : AreCleanIn text lines → IsClean p.name
    clean_name clean =
        let r = from_map (token_bytes text) line.tokens p.name (entry_name (words_line text line).words (record { name = p.name; init = p.init }) is.says) in
        subst IsClean (sym r.2) (clean.each line (member_at lines i line within item) r.0 r.1)

    pub new_name : (clocks earlier : List (List ℕ)) → line_refusal inputs clocks earlier (words_line text line) ≡ None → place_of earlier p.name ≡ None
    new_name clocks earlier none =
        let said : entry_refusal inputs clocks earlier line.number (Some (record { name = p.name; init = p.init })) ≡ None = ap (entry_refusal inputs clocks earlier line.number) (sym is.says) ∙ none in
        place_none earlier p.name (is_new inputs clocks earlier line.number p.name p.init said)

    -- one more line is read
    pub read_next : (clocks seen : List (List ℕ)) (params more : List Param) → AreCleanIn text lines → line_refusal inputs clocks seen (words_line text line) ≡ None → seen ≡ param_names params → more ≡ params ++ p ∷ []
        → AreRead inputs clocks (map (words_line text) lines) i params → AreRead inputs clocks (map (words_line text) lines) (i + 1) more
    read_next clocks seen params more clean none names pushed read =
        subst (AreRead inputs clocks (map (words_line text) lines) (i + 1)) (sym pushed)
        (one_more inputs clocks (map (words_line text) lines) i params read (words_line text line) line_at p (clean_name clean) is (subst (λ s. line_refusal inputs clocks s (words_line text line) ≡ None) names none))

    pub names_next : (seen found : List (List ℕ)) (params more : List Param) → seen ≡ param_names params → more ≡ params ++ p ∷ [] → found ≡ seen ++ p.name ∷ [] → found ≡ param_names more
    names_next seen found params more names pushed added = added ∙ ap (λ l. l ++ p.name ∷ []) names ∙ sym (param_names-push params p) ∙ ap param_names (sym pushed)
