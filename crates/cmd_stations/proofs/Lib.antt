-- of texts and files, and of the stops at them,
mod Common
pub mod StopLemmas
pub mod LibraryTextLemmas
mod TextLemmas
pub mod LengthLemmas
pub mod RefusedLemmas
pub mod StationLemmas
pub mod ScriptedLemmas
-- of the graph and the tables of a source circuit,
pub mod GraphLemmas
mod InputLemmas
pub mod SourceLemmas
pub mod ShowLemmas
pub mod InitLemmas
-- of what is written,
pub mod WriteLemmas
mod WrittenTableLemmas
mod WrittenCycleLemmas
-- and of packs and their hosts.
pub mod EventLemmas
pub mod PlayingLemmas
pub mod PackLemmas
mod AlikeLemmas
pub mod ReplayLemmas
mod Lemmas
