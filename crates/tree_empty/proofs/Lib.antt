pub mod DeadLeaves
