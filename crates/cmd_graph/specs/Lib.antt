-- What public clauses say: of the arguments,
-- and of the walk.
pub mod Words
pub mod Graph
-- What only bodies are compared with.
pub mod Exports
