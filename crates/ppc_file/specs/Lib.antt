-- What public clauses say.
pub mod Words
pub mod Numbers
pub mod Bytes
pub mod Fields
pub mod Fronts
pub mod PackFile
pub mod Refusals
-- What only bodies are compared with.
pub mod Reading
