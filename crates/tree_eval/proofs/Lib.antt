pub mod TestSides
pub mod Lines
pub mod Maps
pub mod Rows
