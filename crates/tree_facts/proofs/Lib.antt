pub mod Moving
pub mod ByCuts
pub mod Wider
pub mod FactSystems
pub mod Adding
