pub mod Capacities
pub mod LeastRuns
pub mod Rests
pub mod Rings
