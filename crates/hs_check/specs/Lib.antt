pub mod Words
pub mod Fault
pub mod Evidence
pub mod Outcome
