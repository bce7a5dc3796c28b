-- How a call of a program ends.
pub mod Ends
