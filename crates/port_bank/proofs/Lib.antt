mod Common
mod RegionLemmas
mod HoldLemmas
mod FilterLemmas
mod SendLemmas
mod PlayLemmas
mod Examples
mod Lemmas
