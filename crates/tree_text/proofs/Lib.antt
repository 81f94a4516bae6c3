pub mod Coefficients
pub mod TermWords
pub mod Levels
pub mod ReadBack
pub mod LineSpaces
pub mod Spellings
pub mod Texts
