mod Adding
mod Inserted
mod Collected
mod Ordered
pub mod Walking
