pub mod Phrases
pub mod Written
pub mod Spelling
pub mod SpelledExpressions
pub mod SpelledSources
pub mod Texts
