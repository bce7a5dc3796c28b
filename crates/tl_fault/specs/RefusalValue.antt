-- A refusal as contracts see it.
use Rattle.std.specs.Prelude.{ℕ, List}
use Rattle.tl_fault.specs.declared.refusal.Details.{Details}

pub record RefusalValue : Type 0 where
  pub code : List ℕ
  pub word : List ℕ
  pub details : Details

-- the refusal with this code, word and details
abbrev pub refusal : List ℕ → List ℕ → Details → RefusalValue
refusal code word details = record { code = code; word = word; details = details }
