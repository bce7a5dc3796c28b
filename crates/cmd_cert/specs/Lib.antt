-- What public clauses say: of the arguments of both commands,
-- of a certificate's file,
pub mod Words
pub mod Certs
-- and of each walk.
pub mod Prove
pub mod Audit
-- What only bodies are compared with.
pub mod Proofs
