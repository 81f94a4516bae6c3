pub mod Ports
pub mod PortNames
