-- A text has one meaning or one refusal, and not both, where lines have.
use Rattle.tl_text.proofs.Common.{◌≡◌, ℕ, List, map, Option, None, Result, Ok, Err, IfOk, refl, sym, subst, Unless, OrMemory, LineValue, WordsLine, words_line, lines_of, refusal_of, TextErr, Memory, arith, IfErr, IfOk-weaker, IfErr-weaker}
use Rattle.tl_fault.specs.RefusalValue.{RefusalValue}
use Rattle.tl_fault.specs.Settled.{IsSettled, HasAnswer, has_value, has_fault, IsAfter, IsFaultAfter, passed_on, here}
use Rattle.tl_fault.proofs.OrMemoryLemmas.{Unless-of, OrMemory-map}
use Rattle.tl_fault.proofs.SettledLemmas.{result_settled, after_settled}
use Rattle.tl_text.specs.TextOf.{IsTextOf, IsTextFault, by_lines, at_line}

module _ {V E : Type 0} (own : TextErr → E) (Is : List WordsLine → V → Type 0) (IsFault : List WordsLine → E → Type 0) (text : List ℕ) where
  abbrev HasLines : List LineValue → Type 0
  HasLines lines = lines_of text ≡ Ok lines

  abbrev LinesAre : List LineValue → V → Type 0
  LinesAre lines v = Is (map (words_line text) lines) v

  abbrev AreRefused : List LineValue → E → Type 0
  AreRefused lines e = IsFault (map (words_line text) lines) e

  -- what it is by its lines comes after them
  behind : (v : V) → IsTextOf Is text v → IsAfter HasLines LinesAre v
  behind v t = record { before = t.lines; is = t.lines_are; next = t.are }

  fault_behind : (e : E) → IsTextFault own IsFault text e → IsFaultAfter HasLines (λ error. lines_of text ≡ Err error) own AreRefused e
  fault_behind e (by_lines a) = passed_on a.error a.lines_are a.is
  fault_behind e (at_line lines a b) = here lines a b

  lines_some : (lines : List LineValue) → lines_of text ≡ Ok lines → HasAnswer (Is (map (words_line text) lines)) (IsFault (map (words_line text) lines)) → HasAnswer (IsTextOf Is text) (IsTextFault own IsFault text)
  lines_some lines are (has_value v is) = has_value v (record { lines = lines; lines_are = are; are = is })
  lines_some lines are (has_fault e is) = has_fault e (at_line lines are is)

  text_some : ((lines : List WordsLine) → IsSettled (Is lines) (IsFault lines)) → (r : Result (List LineValue) TextErr) → lines_of text ≡ r → HasAnswer (IsTextOf Is text) (IsTextFault own IsFault text)
  text_some settled (Ok lines) are = lines_some lines are (settled (map (words_line text) lines)).some
  text_some settled (Err e) are = has_fault (own e) (by_lines (record { error = e; lines_are = are; is = refl }))

  pub text_settled : ((lines : List WordsLine) → IsSettled (Is lines) (IsFault lines)) → IsSettled (IsTextOf Is text) (IsTextFault own IsFault text)
  text_settled settled =
      let s = after_settled HasLines (λ error. lines_of text ≡ Err error) own LinesAre AreRefused (result_settled (lines_of text)) (λ lines are. settled (map (words_line text) lines)) in
      record {
        some = text_some settled (lines_of text) refl;
        one_value = λ v w a b. s.one_value v w (behind v a) (behind w b);
        one_fault = λ e f a b. s.one_fault e f (fault_behind e a) (fault_behind f b);
        not_both = λ v e a b. s.not_both v e (behind v a) (fault_behind e b);
      }

-- the error of a reader that stands for a refusal of the lines
pub lines_fault : {E : Type 0} (own : TextErr → E) (told : E → Option RefusalValue) (IsFault : List WordsLine → E → Type 0) (text : List ℕ) (error : TextErr) (e : E) → e ≡ own error → told (own Memory) ≡ None
    → OrMemory refusal_of (λ x. lines_of text ≡ Err x) error → OrMemory told (IsTextFault own IsFault text) e
lines_fault own told IsFault text Memory e is none said = subst (OrMemory told (IsTextFault own IsFault text)) (sym is) (subst (λ o. Unless o (IsTextFault own IsFault text (own Memory))) (sym none) tt)
lines_fault own told IsFault text error e is none said = grind arith

-- what a reader makes of the lines of a text is what it makes of the text
module _ {E T : Type 0} (text : List ℕ) (lines : List LineValue) (are : lines_of text ≡ Ok lines) (r : Result T E) where
  pub text_read : {V : Type 0} (Is : List WordsLine → V → Type 0) (view : T → V) → IfOk r (λ v. Is (map (words_line text) lines) (view v)) → IfOk r (λ v. IsTextOf Is text (view v))
  text_read Is view h = IfOk-weaker r (λ v. Is (map (words_line text) lines) (view v)) (λ v. IsTextOf Is text (view v)) (λ v is. record { lines = lines; lines_are = are; are = is }) h

  pub text_refused : (own : TextErr → E) (told : E → Option RefusalValue) (IsFault : List WordsLine → E → Type 0)
      → IfErr r (OrMemory told (IsFault (map (words_line text) lines))) → IfErr r (OrMemory told (IsTextFault own IsFault text))
  text_refused own told IsFault h =
      IfErr-weaker r (OrMemory told (IsFault (map (words_line text) lines))) (OrMemory told (IsTextFault own IsFault text))
      (λ e. OrMemory-map told (IsFault (map (words_line text) lines)) (IsTextFault own IsFault text) e (λ x is. at_line lines are is)) h
