pub mod Classes
pub mod Holds
pub mod Spans
pub mod TokenCounts
