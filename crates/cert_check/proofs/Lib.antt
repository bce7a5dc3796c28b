mod Common
mod StampLemmas
mod StepLemmas
mod InTurnLemmas
mod FaultLemmas
pub mod LeastLemmas
pub mod CheckLemmas
mod LineLemmas
pub mod OnceLemmas
mod WriteLemmas
pub mod RoundTrip
mod CertExample
pub mod BareLemmas
mod Lemmas
