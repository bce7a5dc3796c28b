mod Common
mod DepthLemmas
pub mod PostLemmas
mod WorkLemmas
mod MarkLemmas
mod StepLemmas
mod FollowLemmas
mod VisitLemmas
mod AllLemmas
mod ClearLemmas
mod BackLemmas
mod PathLemmas
pub mod FallLemmas
mod Examples
mod Lemmas
