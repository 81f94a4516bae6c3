pub mod TreeLines
pub mod Dependences
pub mod DepsText
pub mod FireLines
