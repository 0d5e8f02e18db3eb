pub mod Lists
pub mod Growing
pub mod Own
pub mod Becomings
pub mod Pairs
pub mod ByPoint
pub mod Bits
pub mod Found
