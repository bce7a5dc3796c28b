-- The tokens of each logical line stand in the text, and are clean.
use Rattle.tl_text.proofs.Common.{◌≡◌, ℕ, ◌+◌, ◌<◌, eqb, List, [], ◌∷◌, length, Option, Some, None, Result, Ok, Err, inl, inr, sym, subst, arith, IfOk, list_any, eqb-false, In, choose, choose_one, In-append, Token, TextErr, LineValue, AreLinesIn, is_bad, has_slash_end, words, goes_on, extended, with_physical, physical_lines, lines_from, lines_of, closed, counted, put_before, without_return, tokens_at, AreCleanIn}
use Rattle.tl_text.proofs.CleanLemmas.{IsGood, Stand, lines_stand, tokens_good}

module _ (text : List ℕ) where
  abbrev AllGood : List Token → Type 0
  AllGood tokens = (token : Token) → In tokens token → IsGood text token

  abbrev IsLineGood : Option LineValue → Type 0
  IsLineGood None = Unit {0}
  IsLineGood (Some line) = AllGood line.tokens

  record IsLineFine (line : LineValue) : Type 0 where
    some : 0 < length line.tokens
    good : AllGood line.tokens

  abbrev AllFine : List LineValue → Type 0
  AllFine lines = (line : LineValue) → In lines line → IsLineFine line

  extended_good : (number : ℕ) (unfinished : Option LineValue) (tokens : List Token) → IsLineGood unfinished → AllGood tokens → AllGood (extended number unfinished tokens).tokens
  extended_good number None tokens before more = more
  extended_good number (Some line) tokens before more = λ token i. elim (In-append line.tokens tokens token i) [ inl a ↦ before token a | inr b ↦ more token b ]

  first_in : (line : LineValue) (lines : List LineValue) → AllGood line.tokens → AllFine lines → 0 < length line.tokens → AllFine (line ∷ lines)
  first_in line lines good others some other (inl e) = subst IsLineFine (sym e) (record { some = some; good = good })
  first_in line lines good others some other (inr i) = others other i

  counted_in : (line : LineValue) (lines : List LineValue) → AllGood line.tokens → AllFine lines → AllFine (counted line lines)
  counted_in line lines good others = grind arith

  put_before_in : (line : LineValue) (r : Result (List LineValue) TextErr) → AllGood line.tokens → IfOk r AllFine → IfOk (put_before line r) AllFine
  put_before_in line (Ok lines) good others = counted_in line lines good others
  put_before_in line (Err e) good others = tt

  closed_in : (unfinished : Option LineValue) → IsLineGood unfinished → AllFine (closed unfinished)
  closed_in None good = λ line i. elim i [ ]
  closed_in (Some line) good = counted_in line [] good (λ other i. elim i [ ])

  lines_fine : (number at : ℕ) (unfinished : Option LineValue) (lines : List (List ℕ)) → IsLineGood unfinished → Stand text at lines → IfOk (lines_from number at unfinished lines) AllFine
  lines_fine number at unfinished [] good stand = closed_in unfinished good
  lines_fine number at unfinished (line ∷ rest) good (part, stand) =
      let w : List ℕ = without_return rest line in
      let more : LineValue = with_physical number at unfinished w in
      let P = λ (r : Result (List LineValue) TextErr). IfOk r AllFine in
      choose P (list_any is_bad w) _ _ (λ _. tt) (λ fine. choose P (has_slash_end (words w)) _ _ (λ _. tt) (λ ends.
      let inside : AllGood more.tokens = extended_good number unfinished (tokens_at at (words w)) good (tokens_good text at rest line part fine ends) in
      choose_one P (goes_on w) (lines_from (number + 1) _ (Some more) rest) (put_before more (lines_from (number + 1) _ None rest))
      (lines_fine (number + 1) _ (Some more) rest inside stand) (put_before_in more (lines_from (number + 1) _ None rest) inside (lines_fine (number + 1) _ None rest tt stand))))

  -- the lines that the text has
  has_fine : (lines : List LineValue) → lines_of text ≡ Ok lines → AllFine lines
  has_fine lines are = subst (λ (r : Result (List LineValue) TextErr). IfOk r AllFine) are (lines_fine 1 0 None (physical_lines text) tt (lines_stand text))

pub lines_clean : (text : List ℕ) (lines : List LineValue) → lines_of text ≡ Ok lines → AreCleanIn text lines
lines_clean text lines are = record { each = λ line i token j. ((has_fine text lines are line i).good token j).clean }

pub lines_inside : (text : List ℕ) (lines : List LineValue) → lines_of text ≡ Ok lines → AreLinesIn text lines
lines_inside text lines are = record { each = λ line i. let f : IsLineFine text line = has_fine text lines are line i in record { some = f.some; within = λ token j. (f.good token j).within } }
