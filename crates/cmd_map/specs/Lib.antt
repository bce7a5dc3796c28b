-- What public clauses say: of the command `spec`,
pub mod Words
pub mod Spec
-- and of `map`,
pub mod Map
-- and of what they write.
pub mod Outputs
