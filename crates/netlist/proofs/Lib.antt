mod Common
pub mod ControlLemmas
pub mod EvaluateLemmas
pub mod LawLemmas
pub mod LoopLemmas
pub mod MeetLemmas
pub mod NameLemmas
pub mod NetLemmas
mod OneFlatLemmas
pub mod OrderLemmas
pub mod PlaceLemmas
pub mod PostLemmas
pub mod RunLemmas
mod Worked
pub mod UnderscoreLemmas
