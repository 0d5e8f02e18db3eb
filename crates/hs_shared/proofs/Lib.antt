pub mod Seen
pub mod Leaving
pub mod Publishing
pub mod Crossing
