pub mod Columns
pub mod Sequences
pub mod LongScripts
mod Worked
