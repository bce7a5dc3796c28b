mod Common
pub mod LevelLemmas
mod PlaceLemmas
mod LeastLemmas
mod CutLemmas
mod PutLemmas
mod SignedLemmas
mod GroupLemmas
mod SharedLemmas
mod StepLemmas
mod RowLemmas
mod LimitLemmas
mod TableOnceLemmas
pub mod Examples
mod Lemmas
