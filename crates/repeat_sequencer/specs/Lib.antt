pub mod Instructions
pub mod Steps
pub mod Size
