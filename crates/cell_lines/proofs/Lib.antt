pub mod EvenPlaces
pub mod LineCells
