pub mod Wrote
pub mod ReachesSink
pub mod Writer
pub mod Words
