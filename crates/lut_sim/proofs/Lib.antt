mod Common
mod StepLemmas
pub mod FitLemmas
pub mod RoomLemmas
mod MappingLemmas
pub mod SourceLemmas
mod CycleExample
