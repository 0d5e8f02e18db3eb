mod Stretches
mod Beginning
pub mod Telling
pub mod Keeping
pub mod Stepping
pub mod Slots
pub mod Moving
pub mod Turning
pub mod Flying
pub mod Passing
pub mod Tables
mod Surplus
pub mod Waits
pub mod Selected
