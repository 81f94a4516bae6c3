pub mod Absent
pub mod NextLoop
pub mod CarriedProofs
pub mod PointOrder
pub mod OrderChains
pub mod LongerContexts
pub mod PointSystems
pub mod TreeNodes
pub mod OrderEdges
pub mod Outcomes
pub mod Rounds
mod PlacesBehind
