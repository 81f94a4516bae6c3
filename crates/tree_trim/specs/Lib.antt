pub mod Proofs
pub mod Renumbering
pub mod Trees
pub mod Parts
pub mod Sides
