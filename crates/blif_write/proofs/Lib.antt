mod Common
-- What the bodies put.
mod RowLemmas
pub mod OwnNameLemmas
mod NetlistLemmas
-- The text is read again.
mod DenoteLemmas
-- One model as a library.
mod PlainCycleLemmas
mod PlainSoundLemmas
mod PlainFlatLemmas
-- The netlists of tables.
mod TableCycleLemmas
mod PartLemmas
mod OrderlyLemmas
pub mod PortLemmas
pub mod MeaningLemmas
mod WrittenExamples
mod Lemmas
