-- The command `gen`: a generated multiplier is mapped, and its coefficient is changed a hundred times.
pub mod Case
pub mod Totals
pub mod Verdict
-- What only bodies are compared with.
pub mod Texts
