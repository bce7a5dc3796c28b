-- What public clauses say.
pub mod Words
pub mod Context
pub mod Denotes
pub mod Latches
pub mod LineFault
pub mod ReadFault
pub mod Refusals
pub mod Rows
pub mod Size
pub mod Statement
-- What only bodies are compared with.
pub mod Reading
