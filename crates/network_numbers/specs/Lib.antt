pub mod Entries
pub mod Links
pub mod Queues
pub mod PlanNumbers
