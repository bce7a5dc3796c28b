-- What the bytes of a token can be: what may be written as a name, and is then read as one token.
use Rattle.std.specs.Prelude.{◌≡◌, ℕ, ◌<◌, false, List, length}
use Rattle.list_laws.specs.Members.{In}
use Rattle.tl_text.specs.declared.token.Token.{Token}
use Rattle.tl_text.specs.LineValue.{LineValue, token_bytes}
use Rattle.tl_text.specs.Lines.{is_bad, ends_in}
use Rattle.tl_text.specs.Tokens.{is_blank}

-- One byte at least, and none that is a blank, a byte that no line may have (as a line feed), or a `#` (35).
pub record HasCleanBytes (name : List ℕ) : Type 0 where
  pub some : 0 < length name
  pub no_blank : (b : ℕ) → In name b → is_blank b ≡ false
  pub no_bad : (b : ℕ) → In name b → is_bad b ≡ false
  pub no_comment : (b : ℕ) → In name b → b ≡ 35 → ⊥

-- A clean name has clean bytes and doesn't end in `\` (92).
pub record IsClean (name : List ℕ) : Type 0 where
  pub bytes : HasCleanBytes name
  pub no_slash : ends_in 92 name ≡ false

-- each token of lines is a clean name
pub record AreCleanIn (text : List ℕ) (lines : List LineValue) : Type 0 where
  pub each : (line : LineValue) → In lines line → (token : Token) → In line.tokens token → IsClean (token_bytes text token)
