pub mod CommentEnds
pub mod Elements
pub mod Longest
pub mod Loop
pub mod Order
pub mod TokenSpaces
