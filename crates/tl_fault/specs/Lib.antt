-- What public clauses say.
pub mod RefusalValue
pub mod Refusals
pub mod OrMemory
pub mod Settled
-- What the model of a name says.
pub mod KeptBytes
