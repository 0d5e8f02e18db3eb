pub mod Relations
pub mod Choices
pub mod NeverVoid
pub mod Building
mod Reached
pub mod Reading
pub mod Complete
pub mod Verdict
