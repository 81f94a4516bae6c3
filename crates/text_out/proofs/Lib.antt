pub mod WordSpaces
pub mod ItemNumbers
pub mod SinkParts
pub mod Walks
pub mod Wrote
