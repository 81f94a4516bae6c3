pub mod MarkBits
pub mod Plans
pub mod Reads
pub mod Tokens
