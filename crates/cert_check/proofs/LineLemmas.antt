-- The lines of a certificate's text are read one by one: the steps of the lines so far, and the first line that doesn't fit.
use Rattle.cert_check.proofs.Common.{◌≡◌, ℕ, suc, ◌+◌, ◌<◌, ◌≤◌, true, false, eqb, List, [], ◌∷◌, ◌++◌, length, map, take, drop, get_or, Some, None, Result, Ok, Err, refl, sym, ap, ◌∙◌, subst, arith, append_assoc, append-nil, slice_get, MatchResult, option_map, cond-true, cond-false, le-leb, take_all, map-append, flat_map-append, slice_get-map, slice_get_read, slice_get_within, drop_get, OrMemory, LineValue, WordsLine, words_line, PathValue, StepValue, CertSaying, says_depth, says_path, said_of, SaidLine, path_said, steps_said, AreSaid, AreLinesOf, fits_at, first_misfit, IsMalformed, IsMisfit, refusal_of, CertErr, Malformed, take_get, Option, take-append-drop, token_bytes, Token, number_of, in_front, numbers_of, min, length-take, rules}

-- one more line
said_push : (lines : List WordsLine) (others : List SaidLine) (line : WordsLine) (said : SaidLine) → AreSaid lines others → line.number ≡ said.number → said_of line.words ≡ Some said.saying → AreSaid (lines ++ line ∷ []) (others ++ said ∷ [])
said_push [] [] line said are number says = (number, says, tt)
said_push (l ∷ ls) (x ∷ xs) line said are number says = (are.0, are.1, said_push ls xs line said are.2 number says)
said_push lines others line said are number says = absurd are

said_length : (lines : List WordsLine) (others : List SaidLine) → AreSaid lines others → length others ≡ length lines
said_length [] [] are = refl
said_length (l ∷ ls) (x ∷ xs) are = ap suc (said_length ls xs are.2)
said_length lines others are = absurd are

-- the lines before a place are read, and these are their steps
pub record AreRead (lines : List WordsLine) (i : ℕ) (steps : List StepValue) : Type 0 where
  pub said : AreSaid (take i lines) (steps_said steps)
  pub skips : (n : ℕ) → first_misfit (1 + i) (drop i lines) ≡ Some n → first_misfit 1 lines ≡ Some n

pub nothing_read : (lines : List WordsLine) → AreRead lines 0 []
nothing_read lines = record { said = tt; skips = λ n e. e }

module _ (lines : List WordsLine) (i : ℕ) (steps : List StepValue) (read : AreRead lines i steps) where
  module _ (line : WordsLine) (at : slice_get lines i ≡ Some line) where
    place_is : 1 + length (steps_said steps) ≡ 1 + i
    place_is =
        let l : i < length lines = slice_get_within lines i line at in
        let a : length (steps_said steps) ≡ length (take i lines) = said_length (take i lines) (steps_said steps) read.said in
        let b : length (take i lines) ≡ min i (length lines) = length-take i lines in omega arith

    -- the next line doesn't fit
    stops : (e : CertErr) → fits_at (1 + i) (said_of line.words) ≡ false → e ≡ Malformed line.number → IsMisfit 1 lines e
    stops e misfit is = record {
      line = line.number;
      first = read.skips line.number (ap (first_misfit (1 + i)) (drop_get lines i line at) ∙ cond-false (fits_at (1 + i) (said_of line.words)) (first_misfit (suc (1 + i)) (drop (i + 1) lines)) (Some line.number) misfit);
      is = is;
    }

    pub nothing_said : (e : CertErr) → said_of line.words ≡ None → e ≡ Malformed line.number → IsMisfit 1 lines e
    nothing_said e none is = stops e (ap (fits_at (1 + i)) none) is

    module _ (saying : CertSaying) (says : said_of line.words ≡ Some saying) where
      pub wrong_place : (e : CertErr) → fits_at (1 + length (steps_said steps)) (Some saying) ≡ false → e ≡ Malformed line.number → IsMisfit 1 lines e
      wrong_place e misfit is = stops e (ap (fits_at (1 + i)) says ∙ ap (λ n. fits_at n (Some saying)) (sym place_is) ∙ misfit) is

      -- or it is read
      pub one_more : (more : List StepValue) → steps_said more ≡ steps_said steps ++ record { number = line.number; saying = saying } ∷ [] → fits_at (1 + length (steps_said steps)) (Some saying) ≡ true → AreRead lines (i + 1) more
      one_more more added fits = record {
        said = subst (AreSaid (take (i + 1) lines)) (sym added) (subst (λ ls. AreSaid ls (steps_said steps ++ record { number = line.number; saying = saying } ∷ [])) (sym (take_get lines i line at)) (said_push (take i lines) (steps_said steps) line (record { number = line.number; saying = saying }) read.said refl says));
        skips = λ n e. read.skips n (
            ap (first_misfit (1 + i)) (drop_get lines i line at)
            ∙ cond-true (fits_at (1 + i) (said_of line.words)) (first_misfit (suc (1 + i)) (drop (i + 1) lines)) (Some line.number) (ap (fits_at (1 + i)) says ∙ ap (λ m. fits_at m (Some saying)) (sym place_is) ∙ fits)
            ∙ ap (λ m. first_misfit m (drop (i + 1) lines)) (let q : suc (1 + i) ≡ 1 + (i + 1) = omega arith in q) ∙ e
            );
      }

  pub all_read : length lines ≤ i → AreSaid lines (steps_said steps)
  all_read past = subst (λ ls. AreSaid ls (steps_said steps)) (take_all i lines past) read.said

-- the steps that say one line more
pub path_pushed : (front steps more : List StepValue) (s t : StepValue) (p : PathValue) → steps ≡ front ++ s ∷ [] → more ≡ front ++ t ∷ [] → t.line ≡ s.line → t.node ≡ s.node → t.claim ≡ s.claim → t.paths ≡ s.paths ++ p ∷ [] → steps_said more ≡ steps_said steps ++ path_said p ∷ []
path_pushed front steps more s t p before after line node claim paths = grind (arith, map-append, flat_map-append, append-nil, append_assoc)

-- a path fits where there is a step
pub path_fits : (steps : List StepValue) (nodes : List ℕ) → 0 < length steps → fits_at (1 + length (steps_said steps)) (Some (says_path nodes)) ≡ true
path_fits [] nodes l = absurd (omega arith)
path_fits (s ∷ ss) nodes l = le-leb 2 (1 + length (steps_said (s ∷ ss))) (omega arith)

-- what is said of a path that was added, or not
pub path_added : (result : Result Unit CertErr) (old new : List StepValue) (line : ℕ) (nodes : List ℕ) (saying : CertSaying) → saying ≡ says_path nodes
    → MatchResult result (λ _. (steps_said new ≡ steps_said old ++ path_said (record { line = line; nodes = nodes }) ∷ []) × (0 < length old)) (OrMemory refusal_of (λ e. (old ≡ []) × (e ≡ Malformed line)))
    → MatchResult result (λ _. (steps_said new ≡ steps_said old ++ record { number = line; saying = saying } ∷ []) × (fits_at (1 + length (steps_said old)) (Some saying) ≡ true))
    (OrMemory refusal_of (λ e. (fits_at (1 + length (steps_said old)) (Some saying) ≡ false) × (e ≡ Malformed line)))
path_added (Ok u) old new line nodes saying is added = (
  added.0 ∙ ap (λ s. steps_said old ++ record { number = line; saying = s } ∷ []) (sym is),
  ap (λ s. fits_at (1 + length (steps_said old)) (Some s)) is ∙ path_fits old nodes added.1,
)
path_added (Err e) old new line nodes saying is added = grind arith

-- the line at a place
module _ (text : List ℕ) (lines : List LineValue) where
  pub line_at : (i : ℕ) (line : LineValue) → i < length lines → line ≡ get_or lines i line → slice_get (map (words_line text) lines) i ≡ Some (words_line text line)
  line_at i line within item = slice_get-map (words_line text) lines i ∙ ap (option_map (words_line text)) (slice_get_read lines (length lines) i line refl within item)

-- there is a line where the list isn't empty
pub some_lines : (lines : List LineValue) → eqb (length lines) 0 ≡ false → 0 < length lines
some_lines [] e = absurd (let wrong : ⊥ = cc in wrong)
some_lines (l ∷ ls) e = omega arith

-- the first line and the others
module _ (text : List ℕ) where
  pub all_lines : (lines : List LineValue) (line : LineValue) (depth : ℕ) (steps : List StepValue) → 0 < length lines → line ≡ get_or lines 0 line → said_of (words_line text line).words ≡ Some (says_depth depth)
      → AreSaid (map (words_line text) (drop 1 lines)) (steps_said steps) → AreLinesOf (map (words_line text) lines) (record { depth = depth; steps = steps })
  all_lines [] line depth steps some is says said = absurd (omega arith)
  all_lines (l ∷ ls) line depth steps some is says said = (subst (λ (x : LineValue). said_of (words_line text x).words ≡ Some (says_depth depth)) is says, said)

  pub first_wrong : (lines : List LineValue) (line : LineValue) (e : CertErr) → 0 < length lines → line ≡ get_or lines 0 line → fits_at 0 (said_of (words_line text line).words) ≡ false → e ≡ Malformed line.number → IsMalformed (map (words_line text) lines) e
  first_wrong [] line e some is misfit error = absurd (omega arith)
  first_wrong (l ∷ ls) line e some is misfit error = search (rules, cond-false)

  pub later_wrong : (lines : List LineValue) (line : LineValue) (depth : ℕ) (e : CertErr) → 0 < length lines → line ≡ get_or lines 0 line → said_of (words_line text line).words ≡ Some (says_depth depth) → IsMisfit 1 (map (words_line text) (drop 1 lines)) e → IsMalformed (map (words_line text) lines) e
  later_wrong [] line depth e some is says misfit = absurd (omega arith)
  later_wrong (l ∷ ls) line depth e some is says misfit = search (rules, cond-true)

-- numbers
abbrev joined : Option (List ℕ) → Option (List ℕ) → Option (List ℕ)
joined None rest = None
joined (Some xs) None = None
joined (Some xs) (Some ys) = Some (xs ++ ys)

joined_front : (o : Option ℕ) (xs ys : Option (List ℕ)) → in_front o (joined xs ys) ≡ joined (in_front o xs) ys
joined_front (Some n) (Some xs) None = refl
joined_front (Some n) (Some xs) (Some ys) = refl
joined_front o xs ys = refl

behind_none : (o : Option (List ℕ)) → o ≡ joined (Some []) o
behind_none None = refl
behind_none (Some ys) = refl

none_behind : (o : Option (List ℕ)) → joined o None ≡ None
none_behind None = refl
none_behind (Some ys) = refl

numbers_append : (xs ys : List (List ℕ)) → numbers_of (xs ++ ys) ≡ joined (numbers_of xs) (numbers_of ys)
numbers_append [] ys = behind_none (numbers_of ys)
numbers_append (x ∷ xs) ys = ap (in_front (number_of x)) (numbers_append xs ys) ∙ joined_front (number_of x) (numbers_of xs) (numbers_of ys)

module _ (text : List ℕ) (tokens : List Token) (i : ℕ) (token : Token) (at : slice_get tokens i ≡ Some token) where
  pub numbers_next : (ns more : List ℕ) (n : ℕ) → number_of (token_bytes text token) ≡ Some n → more ≡ ns ++ n ∷ [] → numbers_of (map (token_bytes text) (take i tokens)) ≡ Some ns → numbers_of (map (token_bytes text) (take (i + 1) tokens)) ≡ Some more
  numbers_next ns more n is added so_far =
      ap (λ l. numbers_of (map (token_bytes text) l)) (take_get tokens i token at) ∙ ap numbers_of (map-append (token_bytes text) (take i tokens) (token ∷ [])) ∙ numbers_append (map (token_bytes text) (take i tokens)) (token_bytes text token ∷ [])
      ∙ ap (λ o. joined o (in_front (number_of (token_bytes text token)) (Some []))) so_far ∙ ap (λ o. joined (Some ns) (in_front o (Some []))) is ∙ ap (λ l. Some l) (sym added)

  pub numbers_stop : number_of (token_bytes text token) ≡ None → numbers_of (map (token_bytes text) tokens) ≡ None
  numbers_stop is =
      ap (λ l. numbers_of (map (token_bytes text) l)) (sym (take-append-drop i tokens) ∙ ap (λ l. take i tokens ++ l) (drop_get tokens i token at))
      ∙ ap numbers_of (map-append (token_bytes text) (take i tokens) (token ∷ drop (i + 1) tokens)) ∙ numbers_append (map (token_bytes text) (take i tokens)) (token_bytes text token ∷ map (token_bytes text) (drop (i + 1) tokens))
      ∙ ap (λ o. joined (numbers_of (map (token_bytes text) (take i tokens))) (in_front o (numbers_of (map (token_bytes text) (drop (i + 1) tokens))))) is ∙ none_behind (numbers_of (map (token_bytes text) (take i tokens)))
