pub mod Designs
pub mod Controls
