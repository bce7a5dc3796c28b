-- The command `run`: a source circuit is mapped, and a script is played on it.
pub mod Job
pub mod Ends
pub mod Verdict
pub mod Headline
-- What only bodies are compared with.
pub mod Ready
