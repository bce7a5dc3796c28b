mod Common
pub mod ConfLemmas
pub mod PackExample
