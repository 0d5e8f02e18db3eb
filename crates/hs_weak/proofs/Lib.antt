pub mod Strength
pub mod ComparingLemmas
mod VoidLemmas
