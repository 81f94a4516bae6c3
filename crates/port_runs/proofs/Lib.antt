pub mod DueEvents
pub mod ComeCounts
pub mod PortSteps
pub mod PortCounts
pub mod PortEnds
pub mod PortValues
pub mod Arrays
