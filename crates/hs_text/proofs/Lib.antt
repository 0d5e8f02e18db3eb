pub mod Texts
pub mod Joins
pub mod Types
pub mod Ascending
pub mod Puts
pub mod VoidOrder
