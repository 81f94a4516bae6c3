pub mod PortParts
pub mod OneClock
pub mod NotBehind
pub mod PortClockRuns
mod Worked
