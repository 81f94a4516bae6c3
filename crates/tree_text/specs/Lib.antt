pub mod TreeText
pub mod Lines
pub mod Reading
