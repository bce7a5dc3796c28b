-- What public clauses say, and what bodies are compared with.
pub mod Parameters
pub mod ParamsText
pub mod RegularPlaces
pub mod Refusals
