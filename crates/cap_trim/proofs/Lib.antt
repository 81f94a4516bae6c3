pub mod FirstPass
pub mod MoreRoom
pub mod AtRest
pub mod NoRoom
pub mod LeastCapacities
pub mod LeastEnabled
pub mod RestPositions
pub mod CapacitySearch
pub mod Rings
pub mod NeededPlaces
pub mod ChannelCapacities
pub mod Turns
pub mod CapacityLists
pub mod ChannelTokens
pub mod TrimFits
mod Worked
