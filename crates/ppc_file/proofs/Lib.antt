mod Common
mod FieldLemmas
mod FileExamples
mod NumberLemmas
pub mod OneReading
mod SomeReading
mod ReadLemmas
mod ReadsLemmas
mod StandLemmas
mod Lemmas
