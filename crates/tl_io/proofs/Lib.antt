mod Common
pub mod BitLemmas
pub mod ContentLemmas
pub mod FilesLemmas
mod FirstNamed
pub mod PutLemmas
mod Reading
mod StoreLemmas
mod Takes
pub mod WrittenLemmas
mod Lemmas
