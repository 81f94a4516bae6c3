pub mod Networks
pub mod Designing
pub mod Clocking
pub mod Answering
pub mod Calls
