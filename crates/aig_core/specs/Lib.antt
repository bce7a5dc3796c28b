-- What public clauses say.
pub mod Aig
pub mod And
pub mod Value
pub mod Roots
-- What only bodies are compared with.
pub mod Keeps
