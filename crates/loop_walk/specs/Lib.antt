pub mod Counting
pub mod EnteredLoops
pub mod PointLists
pub mod Runs
pub mod Walking
pub mod Walks
