pub mod Spans
mod Worked
