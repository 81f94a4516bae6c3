pub mod LastWrites
pub mod Stretches
