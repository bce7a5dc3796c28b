-- What public clauses say.
pub mod Words
pub mod EventValue
pub mod PaceText
pub mod Pace
pub mod Stalls
pub mod Cost
-- What only bodies are compared with.
pub mod Backlog
pub mod Keeps
