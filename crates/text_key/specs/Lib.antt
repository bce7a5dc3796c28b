-- What public clauses say.
pub mod Digest
pub mod KeyedHash
pub mod Words
