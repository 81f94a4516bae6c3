pub mod Cells
pub mod Product
pub mod Summary
