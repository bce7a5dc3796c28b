mod Common
pub mod AscendingLemmas
pub mod OrderLemmas
pub mod BlockLemmas
pub mod SetLemmas
pub mod UnionLemmas
mod HeadLemmas
pub mod SignatureLemmas
mod PartLemmas
pub mod PathLemmas
pub mod HeightLemmas
pub mod LeastHeightLemmas
pub mod PickLemmas
pub mod SpanLemmas
mod RowLemmas
mod Lemmas
