pub mod CellOrder
pub mod CellPlaces
pub mod FormSums
pub mod NarrowStatements
pub mod PlaceSteps
pub mod RowCells
pub mod ShortStatements
