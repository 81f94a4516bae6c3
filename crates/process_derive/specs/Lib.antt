pub mod Scripts
pub mod Derived
pub mod Incoming
pub mod Uses
pub mod Few
