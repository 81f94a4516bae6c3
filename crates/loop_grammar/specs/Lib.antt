pub mod Grammar
pub mod Lexemes
