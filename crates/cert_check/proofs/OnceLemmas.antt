-- A text is that of one certificate or has one refusal, and not both.
use Rattle.cert_check.proofs.Common.{◌≡◌, ℕ, suc, List, [], ◌∷◌, ◌++◌, map, Some, None, refl, sym, ap, ◌∙◌, arith, cond-true, le-leb, none-some, same_Some, WordsLine, text_settled, PathValue, StepValue, CertificateValue, CertSaying, says_depth, says_claim, says_path, said_of, SaidLine, path_said, steps_said, AreSaid, AreLinesOf, fits_at, first_misfit, malformed_line, IsMalformed, cert_err, HasOneReading}
use Rattle.std.proofs.Common.{◌≤◌, Bool, true, false, Option}
use Rattle.std.proofs.lemmas.Bool.{false≢true, eqb-true}
use Rattle.std.specs.Prelude.{if◌then◌else◌}
use Rattle.tl_fault.specs.Settled.{IsSettled, HasAnswer, has_value, has_fault}
use Rattle.cert_check.specs.declared.cert_err.CertErr.TheVariants.{Malformed}

-- lines say one thing
said_same : (x y : SaidLine) → x.number ≡ y.number → x.saying ≡ y.saying → x ≡ y
said_same x y a b = ap (λ n. record { number = n; saying = x.saying }) a ∙ ap (λ s. record { number = y.number; saying = s }) b

said_once : (lines : List WordsLine) (xs ys : List SaidLine) → AreSaid lines xs → AreSaid lines ys → xs ≡ ys
said_once [] [] [] a b = refl
said_once [] [] (y ∷ ys) a b = absurd b
said_once (l ∷ ls) (x ∷ xs) [] a b = absurd b
said_once (l ∷ ls) (x ∷ xs) (y ∷ ys) a b = grind (arith, said_same, same_Some, said_once ls xs ys a.2 b.2)
said_once lines xs ys a b = absurd a

-- the steps that lines say, and the paths before the first of them
record Unsaid : Type 0 where
  paths : List PathValue
  steps : List StepValue

unsay_one : ℕ → CertSaying → Unsaid → Unsaid
unsay_one n (says_depth d) u = u
unsay_one n (says_claim node claim) u = record { paths = []; steps = record { line = n; node = node; claim = claim; paths = u.paths } ∷ u.steps }
unsay_one n (says_path nodes) u = record { paths = record { line = n; nodes = nodes } ∷ u.paths; steps = u.steps }

unsay : List SaidLine → Unsaid
unsay [] = record { paths = []; steps = [] }
unsay (x ∷ xs) = unsay_one x.number x.saying (unsay xs)

unsay_paths : (ps : List PathValue) (rest : List SaidLine) (ss : List StepValue) → unsay rest ≡ record { paths = []; steps = ss } → unsay (map path_said ps ++ rest) ≡ record { paths = ps; steps = ss }
unfolding unsay unsay_one
unsay_paths [] rest ss e = e
unsay_paths (p ∷ ps) rest ss e = ap (λ u. unsay_one p.line (says_path p.nodes) u) (unsay_paths ps rest ss e)

unsay_steps : (ss : List StepValue) → unsay (steps_said ss) ≡ record { paths = []; steps = ss }
unfolding unsay unsay_one
unsay_steps [] = refl
unsay_steps (s ∷ ss) = ap (λ u. unsay_one s.line (says_claim s.node s.claim) u) (unsay_paths s.paths (steps_said ss) ss (unsay_steps ss))

steps_once : (ss ts : List StepValue) → steps_said ss ≡ steps_said ts → ss ≡ ts
steps_once ss ts e = ap (λ (u : Unsaid). u.steps) (sym (unsay_steps ss) ∙ ap unsay e ∙ unsay_steps ts)

depth_same : (d e : ℕ) → Some (says_depth d) ≡ Some (says_depth e) → d ≡ e
depth_same d e h = let same : says_depth d ≡ says_depth e = same_Some (says_depth d) (says_depth e) h in cc

lines_once : (lines : List WordsLine) (c d : CertificateValue) → AreLinesOf lines c → AreLinesOf lines d → c ≡ d
lines_once [] c d a b = absurd a
lines_once (l ∷ ls) c d a b =
    let steps : c.steps ≡ d.steps = steps_once c.steps d.steps (said_once ls (steps_said c.steps) (steps_said d.steps) a.1 b.1) in
    ap (λ x. record { depth = x; steps = c.steps }) (depth_same c.depth d.depth (sym a.0 ∙ b.0)) ∙ ap (λ x. record { depth = d.depth; steps = x }) steps

-- the lines of a certificate fit
paths_fit : (lines : List WordsLine) (place : ℕ) (ps : List PathValue) (rest : List SaidLine) → AreSaid lines (map path_said ps ++ rest)
    → ((more : List WordsLine) (n : ℕ) → AreSaid more rest → first_misfit (suc n) more ≡ None) → first_misfit (suc (suc place)) lines ≡ None
paths_fit lines place [] rest are later = later lines (suc place) are
paths_fit [] place (p ∷ ps) rest are later = absurd are
paths_fit (l ∷ ls) place (p ∷ ps) rest are later = grind (arith, cond-true, le-leb, paths_fit ls (suc place) ps rest are.2 later)

steps_fit : (lines : List WordsLine) (place : ℕ) (ss : List StepValue) → AreSaid lines (steps_said ss) → first_misfit (suc place) lines ≡ None
steps_fit [] place [] are = refl
steps_fit (l ∷ ls) place (s ∷ ss) are =
    cond-true (fits_at (suc place) (said_of l.words)) (first_misfit (suc (suc place)) ls) (Some l.number) (ap (fits_at (suc place)) are.1 ∙ le-leb 1 (suc place) (omega arith))
    ∙ paths_fit ls place s.paths (steps_said ss) are.2 (λ more n a. steps_fit more n ss a)
steps_fit lines place ss are = absurd are

lines_fit : (lines : List WordsLine) (c : CertificateValue) → AreLinesOf lines c → malformed_line lines ≡ None
lines_fit [] c are = absurd are
lines_fit (l ∷ ls) c are = cond-true (fits_at 0 (said_of l.words)) (first_misfit 1 ls) (Some l.number) (ap (fits_at 0) are.0) ∙ steps_fit ls 0 c.steps are.1

-- lines that fit are those of a certificate: paths, then steps
fits_there : (b : Bool) (n : ℕ) (rest : Option ℕ) → (if b then rest else Some n) ≡ None → (b ≡ true) × (rest ≡ None)
fits_there true n rest h = (refl, h)
fits_there false n rest h = absurd (none-some n (sym h))

record AreRest (lines : List WordsLine) : Type 0 where
  paths : List PathValue
  steps : List StepValue
  are : AreSaid lines (map path_said paths ++ steps_said steps)

rest_more : (place : ℕ) (line : WordsLine) (lines : List WordsLine) (o : Option CertSaying) → said_of line.words ≡ o → 2 ≤ place → fits_at place o ≡ true → AreRest lines → AreRest (line ∷ lines)
rest_more place line lines None is late fits rest = absurd (false≢true fits)
rest_more place line lines (Some (says_depth d)) is late fits rest = absurd (omega (arith, late, eqb-true place 0 fits))
rest_more place line lines (Some (says_claim n h)) is late fits rest =
    record { paths = []; steps = record { line = line.number; node = n; claim = h; paths = rest.paths } ∷ rest.steps; are = (refl, is, rest.are) }
rest_more place line lines (Some (says_path ns)) is late fits rest =
    record { paths = record { line = line.number; nodes = ns } ∷ rest.paths; steps = rest.steps; are = (refl, is, rest.are) }

rest_said : (place : ℕ) (lines : List WordsLine) → 2 ≤ place → first_misfit place lines ≡ None → AreRest lines
rest_said place [] late none = record { paths = []; steps = []; are = tt }
rest_said place (line ∷ lines) late none =
    let here = fits_there (fits_at place (said_of line.words)) line.number (first_misfit (suc place) lines) none in
    rest_more place line lines (said_of line.words) refl late here.0 (rest_said (suc place) lines (omega (arith, late)) here.1)

record AreSteps (lines : List WordsLine) : Type 0 where
  steps : List StepValue
  are : AreSaid lines (steps_said steps)

first_step : (line : WordsLine) (lines : List WordsLine) (o : Option CertSaying) → said_of line.words ≡ o → fits_at 1 o ≡ true → AreRest lines → AreSteps (line ∷ lines)
first_step line lines None is fits rest = absurd (false≢true fits)
first_step line lines (Some (says_depth d)) is fits rest = absurd (false≢true fits)
first_step line lines (Some (says_claim n h)) is fits rest =
    record { steps = record { line = line.number; node = n; claim = h; paths = rest.paths } ∷ rest.steps; are = (refl, is, rest.are) }
first_step line lines (Some (says_path ns)) is fits rest = absurd (false≢true fits)

steps_there : (lines : List WordsLine) → first_misfit 1 lines ≡ None → AreSteps lines
steps_there [] none = record { steps = []; are = tt }
steps_there (line ∷ lines) none =
    let here = fits_there (fits_at 1 (said_of line.words)) line.number (first_misfit 2 lines) none in
    first_step line lines (said_of line.words) refl here.0 (rest_said 2 lines (omega arith) here.1)

certificate_there : (line : WordsLine) (lines : List WordsLine) (o : Option CertSaying) → said_of line.words ≡ o → fits_at 0 o ≡ true → AreSteps lines → HasAnswer (AreLinesOf (line ∷ lines)) (IsMalformed (line ∷ lines))
certificate_there line lines None is fits rest = absurd (false≢true fits)
certificate_there line lines (Some (says_depth d)) is fits rest = has_value (record { depth = d; steps = rest.steps }) (is, rest.are)
certificate_there line lines (Some (says_claim n h)) is fits rest = absurd (false≢true fits)
certificate_there line lines (Some (says_path ns)) is fits rest = absurd (false≢true fits)

lines_some : (lines : List WordsLine) (o : Option ℕ) → malformed_line lines ≡ o → HasAnswer (AreLinesOf lines) (IsMalformed lines)
lines_some lines (Some n) is = has_fault (Malformed n) (record { line = n; first = is; is = refl })
lines_some [] None is = absurd (none-some 1 (sym is))
lines_some (line ∷ lines) None is =
    let here = fits_there (fits_at 0 (said_of line.words)) line.number (first_misfit 1 lines) is in
    certificate_there line lines (said_of line.words) refl here.0 (steps_there lines here.1)

lines_settled : (lines : List WordsLine) → IsSettled (AreLinesOf lines) (IsMalformed lines)
lines_settled lines = record {
  some = lines_some lines (malformed_line lines) refl;
  one_value = lines_once lines;
  one_fault = λ e f a b. a.is ∙ ap Malformed (same_Some a.line b.line (sym a.first ∙ b.first)) ∙ sym b.is;
  not_both = λ c e are fault. none-some fault.line (sym (lines_fit lines c are) ∙ fault.first);
}

pub one_reading : (text : List ℕ) → HasOneReading text
one_reading text = text_settled cert_err AreLinesOf IsMalformed text lines_settled
