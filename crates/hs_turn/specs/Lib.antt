pub mod Story
pub mod Views
pub mod Seats
pub mod Rule
pub mod AtomicSteps
