-- What public clauses say.
pub mod Marks
pub mod Readers
pub mod Counted
-- What only bodies are compared with.
pub mod Layers
pub mod Listed
