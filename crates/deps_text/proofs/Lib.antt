mod Fires
mod Lookups
mod DependenceRange
