mod Common
pub mod HeldValues
mod HostExample
pub mod PacedLemmas
pub mod SettingLemmas
pub mod Values
mod Lemmas
