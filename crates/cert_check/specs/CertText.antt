-- A certificate as a text: a line for its depth, then for each step a line for its claim and one for each of its paths.
use Rattle.std.specs.Prelude.{◌≡◌, ℕ, suc, Bool, false, if◌then◌else◌, ◌==◌, nat_le, List, [], ◌∷◌, map, Option, Some, None, bytes_eq, codes}
use Rattle.std.specs.List.{flat_map}
use Rattle.std.specs.Option.{option_and_then}
use Rattle.tl_text.specs.Decimal.{decimal_of}
use Rattle.tl_fault.specs.Settled.{IsSettled}
use Rattle.tl_text.specs.LineValue.{WordsLine}
use Rattle.tl_text.specs.TextOf.{IsTextOf, IsTextFault}
use Rattle.tl_text.specs.declared.text_err.TextErr.{TextErr}
use Rattle.cert_check.specs.CertificateValue.{PathValue, StepValue, CertificateValue}
use Rattle.cert_check.specs.declared.cert_err.CertErr.{CertErr}
use Rattle.cert_check.specs.declared.cert_err.CertErr.TheVariants.{BadByte, TrailingSlash, Malformed, Memory}
use Rattle.cert_check.specs.declared.saying.CertSaying.{CertSaying as Read}
use Rattle.tl_text.specs.declared.text_err.TextErr.TheVariants as text_err
use Rattle.cert_check.specs.declared.saying.CertSaying.TheVariants as read

-- what a line says: the depth, the claim of a node, or the nodes of a path
pub data CertSaying : Type 0 where
  says_depth : ℕ → CertSaying
  says_claim : ℕ → ℕ → CertSaying
  says_path : List ℕ → CertSaying

-- a decimal number below 2^32
abbrev pub small : ℕ → Option ℕ
small n = if nat_le n 4294967295 then Some n else None

abbrev pub number_of : List ℕ → Option ℕ
number_of word = option_and_then small (decimal_of word)

-- the numbers of words, where each of them is one
abbrev pub in_front : Option ℕ → Option (List ℕ) → Option (List ℕ)
in_front None rest = None
in_front (Some n) None = None
in_front (Some n) (Some ns) = Some (n ∷ ns)

abbrev pub numbers_of : List (List ℕ) → Option (List ℕ)
numbers_of [] = Some []
numbers_of (word ∷ words) = in_front (number_of word) (numbers_of words)

-- the three forms: `depth D`; `claim NODE H`, H at least 1; `path` and two or more nodes
abbrev pub depth_with : List ℕ → Option CertSaying
depth_with [] = None
depth_with (d ∷ []) = Some (says_depth d)
depth_with (d ∷ n ∷ ns) = None

abbrev pub claim_with : List ℕ → Option CertSaying
claim_with [] = None
claim_with (n ∷ []) = None
claim_with (n ∷ h ∷ []) = if h == 0 then None else Some (says_claim n h)
claim_with (n ∷ h ∷ m ∷ ms) = None

abbrev pub path_with : List ℕ → Option CertSaying
path_with [] = None
path_with (m ∷ []) = None
path_with (m ∷ n ∷ ns) = Some (says_path (m ∷ n ∷ ns))

abbrev pub saying_by : List ℕ → List ℕ → Option CertSaying
saying_by word numbers =
    if bytes_eq word (codes "depth") then depth_with numbers
    else if bytes_eq word (codes "claim") then claim_with numbers
    else if bytes_eq word (codes "path") then path_with numbers
    else None

abbrev pub said_of : List (List ℕ) → Option CertSaying
said_of [] = None
said_of (word ∷ words) = option_and_then (saying_by word) (numbers_of words)

-- what a line with this number says
pub record SaidLine : Type 0 where
  pub number : ℕ
  pub saying : CertSaying

-- the lines of steps
abbrev pub path_said : PathValue → SaidLine
path_said p = record { number = p.line; saying = says_path p.nodes }

abbrev pub step_said : StepValue → List SaidLine
step_said s = record { number = s.line; saying = says_claim s.node s.claim } ∷ map path_said s.paths

abbrev pub steps_said : List StepValue → List SaidLine
steps_said steps = flat_map step_said steps

-- lines say this, one by one
abbrev pub AreSaid : List WordsLine → List SaidLine → Type 0
AreSaid [] [] = Unit {0}
AreSaid [] (said ∷ others) = ⊥
AreSaid (line ∷ lines) [] = ⊥
AreSaid (line ∷ lines) (said ∷ others) = (line.number ≡ said.number) × (said_of line.words ≡ Some said.saying) × AreSaid lines others

-- lines are those of a certificate
abbrev pub AreLinesOf : List WordsLine → CertificateValue → Type 0
AreLinesOf [] c = ⊥
AreLinesOf (line ∷ lines) c = (said_of line.words ≡ Some (says_depth c.depth)) × AreSaid lines (steps_said c.steps)

-- a text is that of a certificate
abbrev pub IsCertText : List ℕ → CertificateValue → Type 0
IsCertText = IsTextOf AreLinesOf

-- may a line that says this stand at a place: the depth comes first, then a claim, and then claims and paths
abbrev pub fits_at : ℕ → Option CertSaying → Bool
fits_at place None = false
fits_at place (Some (says_depth d)) = place == 0
fits_at place (Some (says_claim n h)) = nat_le 1 place
fits_at place (Some (says_path ns)) = nat_le 2 place

-- the number of the first line that isn't of its form or place, among lines the first of which stands at a place
abbrev pub first_misfit : ℕ → List WordsLine → Option ℕ
first_misfit place [] = None
first_misfit place (line ∷ lines) = if fits_at place (said_of line.words) then first_misfit (suc place) lines else Some line.number

-- the line that is malformed: where there is none the first one is missing
abbrev pub malformed_line : List WordsLine → Option ℕ
malformed_line [] = Some 1
malformed_line (line ∷ lines) = first_misfit 0 (line ∷ lines)

-- lines are refused at this one
pub record IsMalformed (lines : List WordsLine) (e : CertErr) : Type 0 where
  pub line : ℕ
  pub first : malformed_line lines ≡ Some line
  pub is : e ≡ Malformed line

-- a refusal of a text's lines as one of a certificate
abbrev pub cert_err : TextErr → CertErr
cert_err (text_err.BadByte line) = BadByte line
cert_err (text_err.TrailingSlash line) = TrailingSlash line
cert_err text_err.Memory = Memory

-- a text is refused: as its lines are, else at the first line that is malformed
abbrev pub IsCertTextFault : List ℕ → CertErr → Type 0
IsCertTextFault = IsTextFault cert_err IsMalformed

-- a text is that of one certificate or has one refusal, and not both
abbrev pub HasOneReading : List ℕ → Type 0
HasOneReading text = IsSettled (IsCertText text) (IsCertTextFault text)

-- a saying with a plain list in the vector's place
abbrev pub saying_value : Read → CertSaying
saying_value (read.Depth d) = says_depth d
saying_value (read.Claim n h) = says_claim n h
saying_value (read.Path ns) = says_path ns.items

-- lines from a place on are refused at the first one that doesn't fit
pub record IsMisfit (place : ℕ) (lines : List WordsLine) (e : CertErr) : Type 0 where
  pub line : ℕ
  pub first : first_misfit place lines ≡ Some line
  pub is : e ≡ Malformed line
