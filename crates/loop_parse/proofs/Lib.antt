pub mod Negations
pub mod Outside
pub mod MachineSteps
pub mod ExpressionComplete
pub mod ExpressionSound
pub mod SourceComplete
pub mod SourceSound
pub mod SourceCloses
pub mod Runs
mod Places
