pub mod TreeLemmas
pub mod Mapped
pub mod Growing
pub mod Above
