pub mod Problems
pub mod Order
pub mod Headline
pub mod Verdict
pub mod Explaining
pub mod Outcome
pub mod OneReport
pub mod ReadAgain
