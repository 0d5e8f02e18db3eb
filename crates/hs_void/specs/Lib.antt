pub mod Rows
pub mod Voids
pub mod Dropped
