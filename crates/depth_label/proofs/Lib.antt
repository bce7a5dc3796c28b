mod Common
pub mod DepthLemmas
mod LowestLemmas
pub mod LabelLemmas
mod OnceLemmas
pub mod Examples
