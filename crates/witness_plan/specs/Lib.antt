pub mod Effects
pub mod PointRuns
pub mod Records
pub mod Schedules
pub mod Sequential
pub mod Steps
