pub mod Chain
pub mod Systems
pub mod Steps
pub mod Refusal
pub mod Rules
