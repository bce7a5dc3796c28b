-- The scan for tokens: the tokens of bytes that start at a place, where the option is the place at which an unfinished token starts.
use Rattle.std.specs.Prelude.{ℕ, ◌+◌, if◌then◌else◌, List, [], ◌∷◌, Option, Some, None}
use Rattle.tl_text.specs.declared.token.Token.{Token}
use Rattle.tl_text.specs.Tokens.{is_blank}

abbrev pub spans : ℕ → Option ℕ → List ℕ → List Token
spans at None [] = []
spans at (Some start) [] = record { start = start; end = at } ∷ []
spans at None (b ∷ bs) = if is_blank b then spans (at + 1) None bs else spans (at + 1) (Some at) bs
spans at (Some start) (b ∷ bs) = if is_blank b then record { start = start; end = at } ∷ spans (at + 1) None bs else spans (at + 1) (Some start) bs
