-- A certificate as contracts see it, with plain lists in the vectors' places.
use Rattle.std.specs.Prelude.{ℕ, List}

-- a path: its line in the text, and its nodes
pub record PathValue : Type 0 where
  pub line : ℕ
  pub nodes : List ℕ

-- a step: its line in the text, its node, the depth that it claims for the node, and its paths
pub record StepValue : Type 0 where
  pub line : ℕ
  pub node : ℕ
  pub claim : ℕ
  pub paths : List PathValue

-- a certificate: the depth that it is for, and its steps
pub record CertificateValue : Type 0 where
  pub depth : ℕ
  pub steps : List StepValue
