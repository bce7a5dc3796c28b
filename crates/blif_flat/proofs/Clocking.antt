-- Clock nets, and the faults of clocks and data.
pub mod ControlLemmas
pub mod ClockStepLemmas
