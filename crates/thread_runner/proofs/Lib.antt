pub mod ProcessEnds
pub mod Rooms
pub mod BenchLists
pub mod ArrayAnswers
