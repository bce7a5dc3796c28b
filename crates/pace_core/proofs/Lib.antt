mod Common
mod DifferenceLemmas
pub mod StallLemmas
pub mod KeepLemmas
pub mod PaceTextLemmas
pub mod PaceExample
mod Lemmas
