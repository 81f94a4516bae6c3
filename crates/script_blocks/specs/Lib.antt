pub mod Expansion
pub mod Nodes
pub mod Nesting
pub mod Places
pub mod Cursors
pub mod Batches
pub mod Scripts
pub mod Labels
