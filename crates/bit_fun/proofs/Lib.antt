mod Common
mod BitExample
mod BitLemmas
mod ConeMakesLemmas
mod ConeWalkLemmas
mod FreeLemmas
mod LawLemmas
mod MadeLemmas
mod MarkLemmas
mod PackExample
pub mod PackLemmas
mod ConeFunctionLemmas
mod RoomLemmas
mod Lemmas
