-- What a text is read as is what it is: its lines as they are spelled, one after another, and its first refusal.
pub mod AigerTextLemmas
pub mod RowLemmas
pub mod SaidLemmas
pub mod SettledLemmas
