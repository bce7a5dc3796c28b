-- Nets, and the table of the nets of all names.
pub mod NetLemmas
pub mod NetStartLemmas
pub mod NetCopyLemmas
pub mod NetOwnLemmas
pub mod NetAllLemmas
