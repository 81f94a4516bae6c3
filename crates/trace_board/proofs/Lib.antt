pub mod LaneAnswers
pub mod BoardSteps
pub mod BoardEnd
mod Worked
