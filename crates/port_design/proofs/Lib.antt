pub mod Lists
pub mod Places
pub mod Ahead
pub mod Given
pub mod Effects
pub mod Next
pub mod Fronts
pub mod PutPart
pub mod FirePart
pub mod GetPart
pub mod Edge
pub mod Offers
pub mod Clocked
pub mod PortRings
mod Worked
