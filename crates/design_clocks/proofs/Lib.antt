pub mod OneClock
pub mod Controls
pub mod Edges
pub mod Clocked
pub mod Plain
pub mod FilledSlots
pub mod Rings
pub mod ListedRuns
mod Worked
