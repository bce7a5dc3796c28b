-- What a script may name, as contracts see it.
use Rattle.std.specs.Prelude.{ℕ, List, Option}
use Rattle.run_text.specs.declared.event.Forms.{Forms}

pub record NamesValue : Type 0 where
  -- by which words it has its forms
  pub forms : Forms
  -- the names of the parameters in order
  pub params : List (List ℕ)
  -- how many values a cycle has, where there are cycles
  pub width : Option ℕ
  -- how many configuration bits there are
  pub bits : ℕ
