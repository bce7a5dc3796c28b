-- What public clauses say.
pub mod Lines
pub mod Netlist
pub mod Script
pub mod Case
-- What only bodies are compared with.
pub mod Steps
