pub mod CellMap
pub mod Narrow
pub mod RowPlaces
pub mod Rows
pub mod ShortAccesses
pub mod SmallValues
