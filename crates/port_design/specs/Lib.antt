pub mod Registers
pub mod Clocked
pub mod PortRings
