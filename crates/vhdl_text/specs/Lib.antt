pub mod Numbered
pub mod Literals
pub mod Expressions
pub mod Constants
pub mod Channels
pub mod VhdlText
pub mod Pieces
pub mod Refusal
