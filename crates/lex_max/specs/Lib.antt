pub mod Answer
pub mod Choices
pub mod Leaves
pub mod EdgeStates
pub mod ChoiceSteps
