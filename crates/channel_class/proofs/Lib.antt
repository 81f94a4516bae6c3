pub mod Neighbours
pub mod Repeats
pub mod Marks
