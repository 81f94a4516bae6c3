pub mod Sums
pub mod Branches
