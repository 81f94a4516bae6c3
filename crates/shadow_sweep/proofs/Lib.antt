pub mod Accesses
pub mod Lists
pub mod Starts
pub mod SweepState
pub mod StretchPlaces
