-- The laws that other crates cite, and a worked example.
pub mod RefineLemmas
pub mod PassLemmas
mod Example
