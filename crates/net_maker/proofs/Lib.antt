pub mod Levels
pub mod LoopValues
pub mod ReadNumbers
pub mod OtherOrigins
pub mod SmallTrees
