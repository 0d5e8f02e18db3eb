pub mod OrderLemmas
mod MakingLemmas
pub mod MoveLemmas
