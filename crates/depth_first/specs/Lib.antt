-- What public clauses say.
pub mod DepthFirst
pub mod Order
pub mod Reach
pub mod Edges
pub mod Walk
pub mod Frames
-- What only bodies are compared with.
pub mod Steps
