pub mod Ports
pub mod Channels
pub mod Rule
