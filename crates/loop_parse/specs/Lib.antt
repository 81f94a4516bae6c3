pub mod Feeding
pub mod ExpressionMachine
pub mod SourceMachine
pub mod Places
pub mod Runs
