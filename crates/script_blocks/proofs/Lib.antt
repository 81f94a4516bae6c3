pub mod Repetitions
pub mod Labels
pub mod Expansions
pub mod Counts
pub mod Nestings
pub mod Builds
pub mod Depths
pub mod Walks
pub mod Batches
pub mod Fills
pub mod CursorItems
pub mod Loops
mod Worked
