pub mod Inductions
pub mod Codes
pub mod Given
pub mod Sizes
pub mod Lengths
pub mod Builds
mod Worked
