pub mod Units
pub mod Events
pub mod Nodes
pub mod Ports
pub mod Counting
pub mod Limits
