pub mod Coefficients
mod Shifts
pub mod Floors
pub mod Sums
pub mod Places
pub mod CutRows
pub mod Singles
pub mod Indivisible
pub mod WriterCuts
pub mod RowSources
pub mod Subscripts
pub mod QuotientRows
pub mod ReadClass
pub mod Behind
