mod Common
mod ChoiceLemmas
mod UsesLemmas
mod WalkLemmas
mod RuleLemmas
mod ServedLemmas
mod RoundLemmas
mod MakingLemmas
mod MarkLemmas
mod TableLemmas
pub mod WorkLemmas
mod DistinctLemmas
pub mod OwnLemmas
mod SearchLemmas
mod MetLemmas
pub mod CountedLemmas
pub mod FreeLemmas
mod TemplateLemmas
mod MappingLemmas
pub mod BitsLemmas
mod LightLemmas
mod RoundsOnceLemmas
mod ChosenLemmas
mod ThereLemmas
mod Examples
mod WorkExample
mod Lemmas
