pub mod NumberFilters
pub mod ClockRuns
pub mod ClockSteps
pub mod Automata
mod Worked
