pub mod Names
pub mod Ports
pub mod Joins
pub mod Networks
pub mod Designs
