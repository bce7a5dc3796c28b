-- of a job of `pace`: its events and its machine at the start, its playing, and its end,
mod Common
mod StartLemmas
mod PlayLemmas
-- what stays of the machine, and what it shows.
mod SteadyLemmas
mod ShownLemmas
mod HeadlineLemmas
