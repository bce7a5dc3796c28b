-- What public clauses say.
pub mod Words
pub mod Value
pub mod Stamps
pub mod Scratch
pub mod Lows
pub mod Parts
pub mod Barriers
-- What only bodies are compared with.
pub mod Trunks
pub mod Net
pub mod Links
pub mod Search
pub mod Memory
pub mod Walks
pub mod Labelled
pub mod LowCuts
