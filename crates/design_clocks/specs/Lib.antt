pub mod Registers
pub mod Clocked
pub mod Plain
pub mod Rings
