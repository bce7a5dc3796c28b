-- What public clauses say.
pub mod Pack
