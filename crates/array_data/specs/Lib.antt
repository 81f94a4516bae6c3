pub mod Answer
pub mod Data
pub mod Judging
pub mod Reading
