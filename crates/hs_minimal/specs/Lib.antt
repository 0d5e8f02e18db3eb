pub mod Compact
pub mod Ends
pub mod Growing
pub mod Following
pub mod Strongest
