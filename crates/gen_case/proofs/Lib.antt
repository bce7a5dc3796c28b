mod Common
pub mod LineLemmas
mod SizeLemmas
pub mod PlainLemmas
mod Examples
mod Lemmas
