-- What public clauses say: of the command `run`,
pub mod Words
pub mod Run
-- and of `gen`.
pub mod GenCommand
