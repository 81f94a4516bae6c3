pub mod LineTypes
pub mod Patterns
pub mod Shapes
pub mod Trees
pub mod Blocks
pub mod Texts
pub mod RefusalLines
pub mod Splits
pub mod ExactPlaces
mod Worked
