pub mod Printing
pub mod Numbers
pub mod ReadBack
