-- What public clauses say: of the command `bits`,
pub mod Words
pub mod Bits
-- and of `repack`.
pub mod Repack
-- What only bodies are compared with.
pub mod BitsReady
