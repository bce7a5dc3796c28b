-- The line on the error output.
use Rattle.std.specs.Prelude.{◌≡◌, ℕ, ◌<◌, ◌⊎◌, take, length, codes, [], ◌∷◌, ◌++◌, List}
use Rattle.std.specs.List.{concat}
use Rattle.cmd_base.specs.Words.{Rose, extended, SinkSeen, RefusalValue, details_words, spaced}
use Rattle.cmd_base.specs.Refusals.{too_long}
use Rattle.cmd_base.specs.declared.outcome.Outcome.{Outcome}
use Rattle.cmd_base.specs.declared.outcome.Outcome.TheVariants as outcome

-- a line of a file's name and a word
abbrev pub plain_line : List ℕ → List ℕ → List ℕ
plain_line name word = concat (codes "tlut: " ∷ name ∷ word ∷ codes "\n" ∷ [])

-- a file's name, and the code and the word of a refusal
abbrev pub head_line : List ℕ → List ℕ → List ℕ → List ℕ
head_line name code word = concat (codes "tlut: " ∷ name ∷ codes ": " ∷ code ∷ codes " " ∷ word ∷ [])

-- the line of a refusal in the file of this name
abbrev pub refusal_line : List ℕ → RefusalValue → List ℕ
refusal_line name refusal = head_line name refusal.code refusal.word ++ (spaced (details_words refusal.details) ++ codes "\n")

-- the line of an outcome, where that of words of no form has these pieces; none where the job is done
abbrev pub line_of : List (List ℕ) → List ℕ → Outcome → List ℕ
line_of usage name outcome.Done = []
line_of usage name outcome.Usage = concat usage
line_of usage name (outcome.TooLong file) = refusal_line name too_long
line_of usage name (outcome.Refused file refusal) = refusal_line name refusal
line_of usage name (outcome.ReadFault file) = plain_line name (codes ": read failed")
line_of usage name outcome.WriteFault = concat (codes "tlut: write failed\n" ∷ [])
line_of usage name outcome.PortFault = concat (codes "tlut: port failed\n" ∷ [])
line_of usage name outcome.Memory = concat (codes "tlut: out of memory\n" ∷ [])

-- the line was appended, or the count of faults rose and a prefix of it was
abbrev pub Reports : SinkSeen → SinkSeen → List ℕ → Type 0
Reports old new line =
    (new.bytes ≡ extended old.bytes line) ⊎ (Rose old.faults new.faults × ((n : ℕ) × (n < length line) × (new.bytes ≡ extended old.bytes (take n line))))
