pub mod CallLemmas
pub mod FollowingLemmas
pub mod HoldLemmas
pub mod StepLemmas
