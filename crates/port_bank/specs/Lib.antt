-- What public clauses say.
pub mod Words
pub mod Regions
pub mod Bank
pub mod Send
pub mod Image
pub mod Moves
pub mod Seen
-- What only bodies are compared with.
pub mod Steps
