pub mod Ending
pub mod Joining
pub mod Leaves
pub mod Walking
