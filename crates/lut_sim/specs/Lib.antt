-- What public clauses say.
pub mod Words
pub mod Sources
pub mod GraphShape
pub mod Playable
pub mod Cycle
pub mod Sim
-- What only bodies are compared with.
pub mod Steps
