-- What public clauses say.
pub mod Clean
pub mod Decimal
pub mod FirstRefusal
pub mod LineValue
pub mod Lines
pub mod NameIndex
pub mod NameSets
pub mod Once
pub mod Refusals
pub mod TextOf
pub mod Tokens
pub mod WrittenText
-- What only bodies are compared with.
pub mod Reading
pub mod Spans
