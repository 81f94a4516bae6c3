pub mod Readers
pub mod Slots
