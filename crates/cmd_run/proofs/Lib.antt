-- of a job of `run`: its files, its machine, its playing, its ports and its end,
mod Common
mod KeptLemmas
mod StartLemmas
mod PlayLemmas
mod PortLemmas
mod RunLemmas
-- what it shows,
mod ShownLemmas
mod HeadlineLemmas
-- and of `gen`.
mod CaseLemmas
mod CaseTextLemmas
mod CaseSizeLemmas
mod GenLemmas
mod TotalLemmas
mod Lemmas
