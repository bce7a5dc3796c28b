-- What public clauses say.
pub mod Events
pub mod Ends
-- What only bodies are compared with.
pub mod Keeps
