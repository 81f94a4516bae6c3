pub mod Ranges
pub mod NetworkText
