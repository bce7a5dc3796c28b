-- What public clauses say.
pub mod Words
pub mod Flow
pub mod Candidates
pub mod Sets
pub mod Making
-- What only bodies are compared with.
pub mod Taking
pub mod Worths
