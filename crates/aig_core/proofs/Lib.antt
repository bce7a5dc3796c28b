mod Common
pub mod FitLemmas
pub mod GrowthLemmas
pub mod Keeping
pub mod NodeLemmas
pub mod ProductLemmas
pub mod ValueExample
pub mod ValueLemmas
