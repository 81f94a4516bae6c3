pub mod Tables
pub mod Sequencers
