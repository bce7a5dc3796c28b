mod Common
mod MachineReplayLemmas
mod SpecLemmas
mod MapLemmas
