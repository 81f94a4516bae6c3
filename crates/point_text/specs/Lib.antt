pub mod PointText
