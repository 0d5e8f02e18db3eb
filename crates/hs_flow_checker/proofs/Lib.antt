pub mod Parts
pub mod GapLemmas
pub mod StartLemmas
