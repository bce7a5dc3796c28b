-- Worked examples.
mod FlatExamples
mod LoopExamples
mod RunExamples
