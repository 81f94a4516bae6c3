pub mod Sentence
pub mod Derivation
pub mod Binding
pub mod NoRefusal
pub mod Lengths
pub mod Worked
