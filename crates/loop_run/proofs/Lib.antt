pub mod HalfOpen
pub mod StatementPlaces
pub mod RunLemmas
pub mod ValuesInside
