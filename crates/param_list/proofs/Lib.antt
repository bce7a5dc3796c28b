mod Common
pub mod LineLemmas
pub mod OnceLemmas
pub mod MarkLemmas
pub mod RegularLemmas
mod ParamsExample
