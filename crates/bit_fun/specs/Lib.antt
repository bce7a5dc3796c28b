-- What public clauses say.
pub mod Words
pub mod Parameters
pub mod BitFunction
pub mod Configuration
pub mod PackOf
pub mod PackLaw
-- What only bodies are compared with.
pub mod ConeFunctions
