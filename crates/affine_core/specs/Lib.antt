pub mod Affine
pub mod Kept
pub mod Within
