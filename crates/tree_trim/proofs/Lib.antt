pub mod Naming
pub mod Refuting
pub mod Systems
pub mod Trimming
pub mod Heights
