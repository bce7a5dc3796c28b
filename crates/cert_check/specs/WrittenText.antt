-- The text that a certificate is written as: the lines that say it, each of words with one blank between them.
use Rattle.std.specs.Prelude.{◌≡◌, ℕ, ◌^◌, ◌<◌, ◌≤◌, List, [], ◌∷◌, ◌++◌, length, map, codes, decimal}
use Rattle.std.specs.List.{flat_map}
use Rattle.list_laws.specs.Members.{In}
pub use Rattle.tl_text.specs.WrittenText.{words_text, line_text}
use Rattle.cert_check.specs.CertificateValue.{PathValue, StepValue, CertificateValue}
use Rattle.cert_check.specs.CertText.{CertSaying, says_depth, says_claim, says_path, SaidLine, steps_said, IsCertText}

-- the words that say it
abbrev pub saying_words : CertSaying → List (List ℕ)
saying_words (says_depth d) = codes "depth" ∷ decimal d ∷ []
saying_words (says_claim n h) = codes "claim" ∷ decimal n ∷ decimal h ∷ []
saying_words (says_path ns) = codes "path" ∷ map decimal ns

-- the lines of a certificate, and its text
abbrev pub cert_lines : CertificateValue → List (List (List ℕ))
cert_lines c = saying_words (says_depth c.depth) ∷ map (λ (l : SaidLine). saying_words l.saying) (steps_said c.steps)

abbrev pub cert_text : CertificateValue → List ℕ
cert_text c = flat_map line_text (cert_lines c)

-- a certificate without its lines' numbers
abbrev pub bare_path : PathValue → PathValue
bare_path p = record { line = 0; nodes = p.nodes }

abbrev pub bare_step : StepValue → StepValue
bare_step s = record { line = 0; node = s.node; claim = s.claim; paths = map bare_path s.paths }

abbrev pub bare : CertificateValue → CertificateValue
bare c = record { depth = c.depth; steps = map bare_step c.steps }

-- a path has two nodes at least, and its numbers fit a word of 32 bits
pub record IsWritablePath (p : PathValue) : Type 0 where
  pub nodes : 2 ≤ length p.nodes
  pub small : (m : ℕ) → In p.nodes m → m < 2 ^ 32

-- a step's claim is 1 at least, and so on
pub record IsWritableStep (s : StepValue) : Type 0 where
  pub claim : 1 ≤ s.claim
  pub small_node : s.node < 2 ^ 32
  pub small_claim : s.claim < 2 ^ 32
  pub paths : (p : PathValue) → In s.paths p → IsWritablePath p

-- a certificate whose text is one
pub record IsWritable (c : CertificateValue) : Type 0 where
  pub small : c.depth < 2 ^ 32
  pub steps : (s : StepValue) → In c.steps s → IsWritableStep s

-- a text is that of a certificate again, but for the numbers of lines
pub record ReadsBack (text : List ℕ) (c : CertificateValue) : Type 0 where
  pub read : CertificateValue
  pub is : IsCertText text read
  pub same : bare read ≡ bare c

-- a number after a blank
abbrev pub number_text : ℕ → List ℕ
number_text n = 32 ∷ decimal n

abbrev pub path_text : PathValue → List ℕ
path_text p = line_text (saying_words (says_path p.nodes))

abbrev pub claim_text : StepValue → List ℕ
claim_text s = line_text (saying_words (says_claim s.node s.claim))

abbrev pub step_text : StepValue → List ℕ
step_text s = claim_text s ++ flat_map path_text s.paths
