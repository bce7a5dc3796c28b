-- What public clauses say.
pub mod Words
pub mod Needed
-- What only bodies are compared with.
pub mod Marks
pub mod Target
pub mod Steps
