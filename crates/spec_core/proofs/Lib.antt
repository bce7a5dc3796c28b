mod Common
pub mod MarkLemmas
pub mod StoreLemmas
mod LeastLemmas
mod SweepLemmas
pub mod AssignLemmas
mod KeepLemmas
mod EventsExample
mod Lemmas
