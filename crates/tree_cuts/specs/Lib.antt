pub mod Class
pub mod Cuts
pub mod Sources
