pub mod Verdict
pub mod Making
pub mod Tests
pub mod Paths
