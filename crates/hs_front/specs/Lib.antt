pub mod Line
pub mod Refusal
pub mod Outside
pub mod Telling
pub mod Files
pub mod Problems
pub mod Faults
pub mod Yields
