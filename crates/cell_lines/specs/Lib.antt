pub mod LinePlaces
