pub mod Cuts
pub mod Facts
pub mod Sums
