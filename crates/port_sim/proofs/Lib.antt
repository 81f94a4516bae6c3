pub mod Rounds
pub mod DueWindows
pub mod MayWindows
pub mod PartLists
pub mod WindowEvents
pub mod PortsHeld
pub mod RunLists
pub mod Clocks
