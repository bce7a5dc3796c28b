mod Common
mod CutLemmas
mod PutLemmas
pub mod EndLemmas
