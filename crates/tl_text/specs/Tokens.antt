-- The tokens of bytes: the longest runs without blanks.
use Rattle.std.specs.Prelude.{◌≡◌, ℕ, ◌+◌, ◌<◌, ◌≤◌, Bool, true, false, ◌||◌, not, if◌then◌else◌, ◌==◌, List, [], ◌∷◌, length, map, slice_index}
use Rattle.list_laws.specs.Members.{In}
use Rattle.list_laws.specs.Order.{IsAscending}
use Rattle.tl_text.specs.declared.token.Token.{Token}

-- a blank is a blank (32) or a tab (9)
abbrev pub is_blank : ℕ → Bool
is_blank b = (b == 32) || (b == 9)

-- The bytes from `start` to before `end` are a longest run without blanks: there is one at least, none of them is a blank,
-- and what stands directly before or after them, if anything does, is a blank.
pub record IsTokenRun (bytes : List ℕ) (start end : ℕ) : Type 0 where
  pub some : start < end
  pub within : end ≤ length bytes
  pub inside : (i : ℕ) → start ≤ i → i < end → is_blank (slice_index bytes i) ≡ false
  pub before : (i : ℕ) → i + 1 ≡ start → is_blank (slice_index bytes i) ≡ true
  pub behind : end < length bytes → is_blank (slice_index bytes end) ≡ true

-- do bytes begin with one that is no blank
abbrev pub begins_run : List ℕ → Bool
begins_run [] = false
begins_run (b ∷ bs) = not (is_blank b)

-- the first token begins earlier
abbrev pub lengthened : ℕ → List Token → List Token
lengthened start [] = []
lengthened start (token ∷ tokens) = record { start = start; end = token.end } ∷ tokens

-- The tokens of bytes that start at a place, from the right: a byte that is no blank lengthens the token that begins at the
-- next byte, or is a token of its own where none begins there.
abbrev pub tokens_at : ℕ → List ℕ → List Token
tokens_at at [] = []
tokens_at at (b ∷ bs) =
    if is_blank b then tokens_at (at + 1) bs
    else if begins_run bs then lengthened at (tokens_at (at + 1) bs)
    else record { start = at; end = at + 1 } ∷ tokens_at (at + 1) bs

-- a token is a run of bytes that start at a place
pub record IsRunAt (at : ℕ) (bytes : List ℕ) (token : Token) : Type 0 where
  pub first : ℕ
  pub past : ℕ
  pub run : IsTokenRun bytes first past
  pub start : token.start ≡ at + first
  pub end : token.end ≡ at + past

-- Tokens are exactly the runs of bytes that start at a place, each once, from left to right.
pub record AreRuns (at : ℕ) (bytes : List ℕ) (tokens : List Token) : Type 0 where
  pub only : (token : Token) → In tokens token → IsRunAt at bytes token
  pub all : (first past : ℕ) → IsTokenRun bytes first past → In tokens (record { start = at + first; end = at + past })
  pub ascending : IsAscending (map (λ token. token.start) tokens)
