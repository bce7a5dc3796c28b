-- What public clauses say.
pub mod Late
-- What only bodies are compared with.
pub mod Keeps
