-- What public clauses say.
pub mod Words
pub mod PlainNetlist
pub mod OwnNames
pub mod Netlists
pub mod Writable
pub mod Meaning
