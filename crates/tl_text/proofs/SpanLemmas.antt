-- The scan for tokens finds the tokens.
use Rattle.tl_text.proofs.Common.{◌≡◌, ℕ, ◌+◌, Bool, true, false, cond, not, List, [], ◌∷◌, Some, None, refl, sym, ap, ◌∙◌, Token, is_blank, begins_run, lengthened, tokens_at, spans, rules}

-- an unfinished token before bytes
abbrev joined : ℕ → ℕ → Bool → List Token → List Token
joined start at begins tokens = cond begins (lengthened start tokens) (record { start = start; end = at } ∷ tokens)

lengthened_twice : (start at : ℕ) (tokens : List Token) → lengthened start (lengthened at tokens) ≡ lengthened start tokens
lengthened_twice start at [] = refl
lengthened_twice start at (t ∷ ts) = refl

lengthened_joined : (start at : ℕ) (begins : Bool) (tokens : List Token) → lengthened start (joined at (at + 1) begins tokens) ≡ joined start (at + 1) begins tokens
lengthened_joined start at true tokens = lengthened_twice start at tokens
lengthened_joined start at false tokens = refl

record Scans (bytes : List ℕ) : Type 0 where
  outside : (at : ℕ) → spans at None bytes ≡ tokens_at at bytes
  inside : (at start : ℕ) → spans at (Some start) bytes ≡ joined start at (begins_run bytes) (tokens_at at bytes)

first_scanned : (at b : ℕ) (bs : List ℕ) → Scans bs → (blank : Bool) → cond blank (spans (at + 1) None bs) (spans (at + 1) (Some at) bs) ≡ cond blank (tokens_at (at + 1) bs) (joined at (at + 1) (begins_run bs) (tokens_at (at + 1) bs))
first_scanned at b bs h true = h.outside (at + 1)
first_scanned at b bs h false = h.inside (at + 1) at

more_scanned : (at start b : ℕ) (bs : List ℕ) → Scans bs → (blank : Bool)
    → cond blank (record { start = start; end = at } ∷ spans (at + 1) None bs) (spans (at + 1) (Some start) bs)
    ≡ joined start at (not blank) (cond blank (tokens_at (at + 1) bs) (joined at (at + 1) (begins_run bs) (tokens_at (at + 1) bs)))
more_scanned at start b bs h true = ap (λ (ts : List Token). record { start = start; end = at } ∷ ts) (h.outside (at + 1))
more_scanned at start b bs h false = h.inside (at + 1) start ∙ sym (lengthened_joined start at (begins_run bs) (tokens_at (at + 1) bs))

scans : (bytes : List ℕ) → Scans bytes
scans [] = record { outside = λ at. refl; inside = λ at start. refl }
scans (b ∷ bs) = search (rules, first_scanned, more_scanned, scans bs)

pub spans_tokens : (at : ℕ) (bytes : List ℕ) → spans at None bytes ≡ tokens_at at bytes
spans_tokens at bytes = (scans bytes).outside at
