pub mod Nodes
pub mod Logs
