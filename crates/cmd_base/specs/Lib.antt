-- What public clauses say: what is outside, a command's walk, and how it ends,
pub mod Words
pub mod Walk
pub mod Writing
pub mod Refusals
pub mod Statuses
-- and the fault line.
pub mod FaultLine
