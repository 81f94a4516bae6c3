pub mod Fronts
pub mod Depths
pub mod Places
