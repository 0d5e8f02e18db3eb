pub mod Places
pub mod Replica
pub mod Index
pub mod Extending
pub mod Masks
