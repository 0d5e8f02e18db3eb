pub mod Buckets
pub mod Canonical
pub mod CanonicalExample
pub mod Following
pub mod Fronts
pub mod Gathering
pub mod Ordering
pub mod Ranked
