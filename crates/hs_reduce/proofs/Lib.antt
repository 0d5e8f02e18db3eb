pub mod GraphLemmas
pub mod ReplacementLemmas
pub mod Walks
pub mod ReplayLemmas
pub mod CutLemmas
mod TraceLemmas
