pub mod Rows
pub mod Reading
pub mod Memory
pub mod Comparing
pub mod LastStates
pub mod KindBits
