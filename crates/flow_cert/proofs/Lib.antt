mod Common
mod GraphLemmas
mod LabelLemmas
mod MarkLemmas
mod TargetLemmas
mod StepLemmas
mod CoverLemmas
mod CertLemmas
pub mod NeededLemmas
mod NeededExample
