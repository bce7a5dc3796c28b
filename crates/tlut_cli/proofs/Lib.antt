mod Common
mod ReplayLemmas
mod CallLemmas
mod ReplayExample
