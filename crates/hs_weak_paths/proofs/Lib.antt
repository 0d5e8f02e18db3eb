pub mod Rejected
pub mod Strength
pub mod Heads
pub mod Rejecting
pub mod Deciding
