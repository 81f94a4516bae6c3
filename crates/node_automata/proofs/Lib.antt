pub mod NumberFilters
pub mod Places
