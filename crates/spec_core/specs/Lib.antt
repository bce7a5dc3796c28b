-- What public clauses say.
pub mod Words
pub mod Differences
pub mod Events
pub mod Touched
pub mod Specialiser
-- What only bodies are compared with.
pub mod Sweep
pub mod Keeps
