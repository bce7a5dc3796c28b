-- What public clauses say.
pub mod Words
pub mod Table
pub mod Limits
pub mod Refusals
-- What only bodies are compared with.
pub mod Keeps
pub mod Merging
