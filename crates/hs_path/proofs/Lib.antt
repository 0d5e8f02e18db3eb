pub mod StoredLemmas
pub mod AddingLemmas
pub mod MovingLemmas
pub mod WalkingLemmas
