-- What public clauses say.
pub mod Label
-- What only bodies are compared with.
pub mod Fold
