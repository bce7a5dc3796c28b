mod Common
mod CountLemmas
mod LayerLemmas
mod MarkLemmas
mod Examples
pub mod ReadLemmas
mod Lemmas
