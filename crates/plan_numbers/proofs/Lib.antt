pub mod Channels
pub mod Classes
pub mod FreeSlots
pub mod Marks
pub mod UsedLists
pub mod Uses
