pub mod Numbers
pub mod Slots
pub mod Turns
pub mod Used
