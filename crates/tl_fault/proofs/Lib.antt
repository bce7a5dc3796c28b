pub mod OrMemoryLemmas
pub mod PassedOn
pub mod SettledLemmas
