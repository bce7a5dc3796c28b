-- What public clauses say: what a circuit is, and what it does,
pub mod Circuit
pub mod Run
pub mod CircuitLibrary
-- which text it is, line by line, and what refuses a text first,
pub mod AigerText
pub mod Refused
pub mod Refusals
pub mod Reading
-- and the text that is written.
pub mod WrittenText
pub mod GraphCircuit
-- What only bodies are compared with.
pub mod Reader
