pub mod Stalls
pub mod EndsWithin
pub mod LowerBounds
pub mod LiveTokens
pub mod Entries
