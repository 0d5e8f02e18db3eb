pub mod Loops
pub mod Members
pub mod UnionLemmas
pub mod ChoiceLemmas
pub mod HeadLemmas
pub mod ConclusionLemmas
pub mod TableLemmas
