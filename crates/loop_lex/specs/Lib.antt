pub mod Lexical
pub mod Tokens
pub mod Front
pub mod Spaced
