mod ArrayCounts
mod CheckAnswers
mod VhdlAnswers
mod EntryCounts
mod Loads
pub mod TextAnswers
mod Runs
mod Sources
mod StatusNumbers
pub mod Stops
