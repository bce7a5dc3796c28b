mod Common
mod PieceLemmas
pub mod AddedLemmas
pub mod PartLemmas
