pub mod Walked
pub mod Stored
pub mod Moved
pub mod Walking
