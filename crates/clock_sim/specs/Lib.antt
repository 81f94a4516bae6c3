pub mod Clocks
pub mod Nodes
