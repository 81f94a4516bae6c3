pub mod Certified
pub mod Parts
