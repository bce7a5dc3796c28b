-- What public clauses say.
pub mod Machine
