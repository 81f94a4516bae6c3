pub mod Changes
pub mod Complaints
pub mod Endings
pub mod Outcomes
pub mod Planned
pub mod Programs
pub mod Reads
pub mod Stops
