-- What public clauses say.
pub mod Lines
pub mod NamesValue
pub mod EventValue
pub mod Sayings
pub mod ScriptText
pub mod Fits
pub mod ScriptRefusals
