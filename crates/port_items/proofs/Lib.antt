pub mod Lengths
pub mod Skips
