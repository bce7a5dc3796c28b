-- What public clauses say.
pub mod Words
pub mod Cuts
pub mod Sets
pub mod Covers
pub mod Unions
pub mod Rows
pub mod Signature
pub mod Paths
pub mod Labels
-- What only bodies are compared with.
pub mod Spans
pub mod Keeps
