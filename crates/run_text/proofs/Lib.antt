mod Common
pub mod EachLemmas
mod ScriptReadLemmas
pub mod ScriptOnceLemmas
pub mod FitLemmas
mod ScriptExample
