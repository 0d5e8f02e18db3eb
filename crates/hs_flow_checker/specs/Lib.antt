pub mod Gaps
pub mod PassedOn
pub mod Starts
