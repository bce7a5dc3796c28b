-- Instances and places in flat order.
pub mod PlaceLemmas
pub mod OrderLemmas
pub mod InstanceLemmas
pub mod InstanceRowLemmas
pub mod InstanceWeightLemmas
pub mod GateLemmas
