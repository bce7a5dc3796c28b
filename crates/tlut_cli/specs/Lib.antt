-- What public clauses say: the forms and the walk of each command,
pub mod Words
pub mod Commands
-- what each one writes,
pub mod Outputs
-- how a call ends, whatever the command,
pub mod Call
-- what one command writes and another plays,
pub mod Replay
-- and what the call says of itself.
pub mod Meaning
-- What only bodies are compared with.
pub mod CommandEnds
