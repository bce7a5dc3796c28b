mod Common
mod FaultLemmas
mod FormedLemmas
pub mod PortLemmas
mod EndsLemmas
mod DenotedLemmas
mod CompleteLemmas
mod SizeLemmas
mod CleanLemmas
mod TextLemmas
mod ReadExamples
