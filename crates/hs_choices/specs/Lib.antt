pub mod Unions
pub mod Slots
pub mod Numbered
