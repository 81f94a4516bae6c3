pub mod Lanes
pub mod Boards
pub mod Advances
