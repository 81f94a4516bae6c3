pub mod Numbers
pub mod FitsNest
