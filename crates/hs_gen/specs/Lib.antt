pub mod Cycle
pub mod Examples
