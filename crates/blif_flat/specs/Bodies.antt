-- What only bodies are compared with: the code's tables, walks and rows, and what one step makes of them.
pub mod ClockSteps
pub mod Conditions
pub mod FieldSteps
pub mod InstanceRows
pub mod ModelSteps
pub mod NetTable
