pub mod Ports
mod Counting
mod Sequences
pub mod Limits
