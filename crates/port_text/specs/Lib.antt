pub mod Units
pub mod Limits
pub mod Tables
pub mod Ports
pub mod Nodes
