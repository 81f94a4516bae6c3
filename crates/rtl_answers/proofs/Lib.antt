mod Designs
mod Units
mod Planned
