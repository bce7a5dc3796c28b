-- The fields of a flat circuit.
pub mod AssembleLemmas
pub mod RegularNetLemmas
pub mod NumberWalkLemmas
pub mod LoopOrderLemmas
pub mod LoopOnceLemmas
