mod Common
mod OnceLemmas
pub mod GraphLemmas
mod StampLemmas
mod LinkLemmas
mod WalkLemmas
mod WayLemmas
mod SearchLemmas
mod HandLemmas
mod FindLemmas
mod BarrierLemmas
mod NearestLemmas
mod EndLemmas
mod HighLemmas
mod FloorLemmas
mod TrunkLemmas
mod QuestionLemmas
pub mod PartLemmas
mod LabelledLemmas
mod NearestOnceLemmas
mod LowOnceLemmas
mod LowSameLemmas
mod LowLemmas
mod FlowExample
mod Lemmas
