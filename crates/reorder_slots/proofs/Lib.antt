pub mod FreeSlots
pub mod Gets
pub mod Held
pub mod LastUses
pub mod Laws
pub mod Plans
pub mod Uses
pub mod Worked
