-- The models of a library: their names, their walk, their drivers and their weight.
pub mod NameSetLemmas
pub mod ModelNameLemmas
pub mod LineLemmas
pub mod WalkedLemmas
pub mod ModelPathLemmas
pub mod ModelWalkLemmas
pub mod TagLemmas
pub mod DrivenLemmas
pub mod WeightLemmas
