-- What public clauses say.
pub mod Words
pub mod CoverGraph
pub mod CoverNodes
pub mod NetlistGraph
pub mod NetlistCycle
pub mod Refusals
-- What only bodies are compared with.
pub mod CoverMade
pub mod Walked
