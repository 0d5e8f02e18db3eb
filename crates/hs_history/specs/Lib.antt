pub mod Story
pub mod CoreStep
pub mod History
pub mod Following
