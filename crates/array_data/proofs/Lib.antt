pub mod Fields
pub mod Readings
pub mod RecordVerdicts
pub mod Records
