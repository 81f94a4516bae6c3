pub mod CellMemory
pub mod Execution
pub mod Outputs
