pub mod Parts
pub mod Shown
pub mod Carried
pub mod Closure
pub mod Made
