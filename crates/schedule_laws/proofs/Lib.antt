pub mod Sources
pub mod DoneAnswers
pub mod WithRun
pub mod TraceTexts
pub mod TrimOutcomes
pub mod Worked
