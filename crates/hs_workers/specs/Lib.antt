pub mod Forming
pub mod Jobs
pub mod Working
pub mod Answers
