mod Rounds
mod Order
pub mod Places
mod Supports
pub mod Filling
pub mod Adding
pub mod Sorted
mod Spreading
mod Chains
mod OneEach
mod Joined
pub mod Gathered
mod Keeping
mod Reading
mod Fronts
pub mod Backing
