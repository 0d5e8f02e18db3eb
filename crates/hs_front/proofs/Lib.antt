pub mod OneScheme
pub mod SortedLemmas
pub mod Layers
pub mod OneProblem
pub mod ReadLemmas
pub mod Yielding
pub mod Statuses
