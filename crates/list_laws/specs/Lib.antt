-- What public clauses say.
pub mod Members
pub mod Apart
pub mod Order
pub mod Digits
